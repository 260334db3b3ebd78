-- Rosters that judge a set of messages alike grant the same.
use Rattle.std.proofs.Common.{ℕ, List, Option, Some, None}
use Rattle.sudo_words.specs.declared.cmnd.Cmnd.{Cmnd}
use Rattle.sudo_policy.specs.declared.entry.Entry.{Entry}
use Rattle.sudo_decide.specs.declared.invocation.Invocation.{Invocation}
use Rattle.messages.specs.declared.request_name.RequestName.{RequestName}
use Rattle.messages.specs.declared.message.Message.{Message}
use Rattle.roster.specs.Agreement.{AgreeUntil}
use Rattle.roster.specs.Fields.{RosterFields}
use Rattle.grants.specs.Past.{AreMadeBy}
use Rattle.grants.specs.declared.outcome.Status.{Status}
use Rattle.grants.proofs.PastLaws.{JudgeAlike, first_moment, judge_alike, judge_turned, last_moment, same_window, status, window}
use Rattle.outcomes.specs.Alike.{GrantAlike}
use Rattle.outcomes.specs.Covers.{Covers}
use Rattle.outcomes.specs.HostFile.{AreLines, IsHostFile, IsHostFileAfter, IsLine, Line}
use Rattle.outcomes.specs.Outcomes.{AreLive, ComesTo, IsLive, LiveGrant}
use Rattle.outcomes.specs.Rights.{GivesRights, GivesRightsAfter}

module _ (f g : RosterFields Cmnd) (set : List Message) (same : JudgeAlike f g set) where
  covers : (i : Invocation) → Covers f set i → Covers g set i
  covers i c = record {
    request = c.request;
    cmnd = c.cmnd;
    window = window f g set same c.request i.at c.window;
    user = c.user;
    host = c.host;
    target = c.target;
    of_request = c.of_request;
    matches_it = c.matches_it;
  }

  line : (host : List ℕ) (l : Line) → IsLine f set host l → IsLine g set host l
  line host l is = record {
    request = is.request;
    first = is.first;
    last = is.last;
    cmnd = is.cmnd;
    names_host = is.names_host;
    first_is = first_moment f g set same is.request is.first is.first_is;
    last_is = last_moment f g set same is.request is.last is.last_is;
    cmnd_is = is.cmnd_is;
    name_is = is.name_is;
    rule_is = is.rule_is;
  }

  live_one : (moment : ℕ) (l : LiveGrant) → IsLive f set moment l → IsLive g set moment l
  live_one moment l is = record {
    request = is.request;
    named = is.named;
    ceiling_is = is.ceiling_is;
    inside = window f g set same is.request moment is.inside;
    first = first_moment f g set same is.request l.window.start is.first;
    last = last_moment f g set same is.request l.window.end is.last;
  }

  outcome : (name : RequestName) (o : Option Status) → ComesTo f set name o → ComesTo g set name o
  outcome name None nobody = nobody
  outcome name (Some s) is = status f g set same name s is

module _ (f g : RosterFields Cmnd) (set : List Message) (same : JudgeAlike f g set) where
  lines : (host : List ℕ) (ls : List Line) → AreLines f set host ls → AreLines g set host ls
  lines host ls are = record {
    in_order = are.in_order;
    each = λ l m. line f g set same host l (are.each l m);
    all = λ l is. are.all l (line g f set (judge_turned f g set same) host l is);
  }

  live : (moment : ℕ) (list : List LiveGrant) → AreLive f set moment list → AreLive g set moment list
  live moment list are = record {
    in_order = are.in_order;
    each = λ l m. live_one f g set same moment l (are.each l m);
    all = λ l is. are.all l (live_one g f set (judge_turned f g set same) moment l is);
  }

  rights : (base : List Entry) (host text : List ℕ) → GivesRights f base set host text → GivesRights g base set host text
  rights base host text gives = record {
    policy = gives.policy;
    spelled = gives.spelled;
    only = gives.only;
    covered = λ i here is. gives.covered i here (covers g f set (judge_turned f g set same) i is);
    bare = λ i d here bare decides. gives.bare i d here (λ is. bare (covers f g set same i is)) decides;
  }

  rights_after : (base : List Entry) (host : List ℕ) (moment : ℕ) (text : List ℕ)
      → GivesRightsAfter f base set host moment text → GivesRightsAfter g base set host moment text
  rights_after base host moment text gives = record {
    policy = gives.policy;
    spelled = gives.spelled;
    only = gives.only;
    covered = λ i here late is. gives.covered i here late (covers g f set (judge_turned f g set same) i is);
    bare = λ i d here late bare decides. gives.bare i d here late (λ is. bare (covers f g set same i is)) decides;
  }

module _ (f g : RosterFields Cmnd) (set : List Message) (same : JudgeAlike f g set) where
  file : (base : List Entry) (host text : List ℕ) → IsHostFile f base set host text → IsHostFile g base set host text
  file base host text is =
      record { lines = is.lines; lines_are = lines f g set same host is.lines is.lines_are; text_is = is.text_is }

  file_after : (base : List Entry) (host : List ℕ) (moment : ℕ) (text : List ℕ)
      → IsHostFileAfter f base set host moment text → IsHostFileAfter g base set host moment text
  file_after base host moment text is =
      record { lines = is.lines; lines_are = lines f g set same host is.lines is.lines_are; text_is = is.text_is }

grant_alike : (f g : RosterFields Cmnd) (set : List Message) → JudgeAlike f g set → GrantAlike f g set
grant_alike f g set same =
    let back = judge_turned f g set same in
    record {
      statuses = λ name o. (outcome f g set same name o, outcome g f set back name o);
      windows = λ q moment. same_window f g set same q moment;
      covers = λ i. (covers f g set same i, covers g f set back i);
      live = λ moment list. (live f g set same moment list, live g f set back moment list);
      files = λ base host text. (file f g set same base host text, file g f set back base host text);
      files_after = λ base host moment text. (file_after f g set same base host moment text, file_after g f set back base host moment text);
      rights = λ base host text. (rights f g set same base host text, rights g f set back base host text);
      rights_after = λ base host moment text. (rights_after f g set same base host moment text, rights_after g f set back base host moment text);
    }

pub past_grants : (f g : RosterFields Cmnd) (moment : ℕ) (set : List Message) → AgreeUntil moment f g → AreMadeBy moment set → GrantAlike f g set
past_grants f g moment set agree early = grant_alike f g set (judge_alike f g moment set agree early)
