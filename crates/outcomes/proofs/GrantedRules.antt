-- What the rule of a grant says about an invocation, whatever the aliases are: yes if each of its parts fits, and nothing otherwise.
use Rattle.std.proofs.Common.{◌≡◌, ℕ, ◌≤◌, ◌⊎◌, Bool, true, false, cond, ◌&&◌, leb, Option, Some, None, List, refl, inl, inr}
use Rattle.std.specs.Str.{bytes_eq}
use Rattle.std.proofs.lemmas.Bool.{leb-true, le-leb}
use Rattle.std.proofs.lemmas.Slice.Eq.{bytes_eq-Decides}
use Rattle.sudo_words.specs.Command.{matches}
use Rattle.sudo_words.specs.declared.cmnd.Cmnd.{Cmnd}
use Rattle.messages.specs.Fields.{RequestFields}
use Rattle.sudo_policy.specs.declared.entry.Entry.{Entry}
use Rattle.sudo_decide.specs.declared.invocation.Invocation.{Invocation}
use Rattle.sudo_decide.specs.Decision.{is_yes, says}
use Rattle.grants.specs.GrantRules.{grant_rule}

-- the answer, from the test of each part
abbrev pub answer_of : (begun lasts user host target fits : Bool) → Option Bool
answer_of begun lasts user host target fits =
    cond ((begun && lasts) && (is_yes (cond user (Some true) None) && is_yes (cond host (Some true) None) && is_yes (cond target (Some true) None)))
    (cond fits (Some true) None) None

pub record AllTrue (begun lasts user host target fits : Bool) : Type 0 where
  pub begun_is : begun ≡ true
  pub lasts_is : lasts ≡ true
  pub user_is : user ≡ true
  pub host_is : host ≡ true
  pub target_is : target ≡ true
  pub fits_is : fits ≡ true

all_true : (a b c d e f : Bool) → answer_of a b c d e f ≡ Some true → AllTrue a b c d e f
all_true false b c d e f h = absurd cc
all_true true false c d e f h = absurd cc
all_true true true false d e f h = absurd cc
all_true true true true false e f h = absurd cc
all_true true true true true false f h = absurd cc
all_true true true true true true false h = absurd cc
all_true true true true true true true h = record {
  begun_is = refl;
  lasts_is = refl;
  user_is = refl;
  host_is = refl;
  target_is = refl;
  fits_is = refl;
}

yes_or_silent : (a b c d e f : Bool) → (answer_of a b c d e f ≡ Some true) ⊎ (answer_of a b c d e f ≡ None)
yes_or_silent false b c d e f = inr refl
yes_or_silent true false c d e f = inr refl
yes_or_silent true true false d e f = inr refl
yes_or_silent true true true false e f = inr refl
yes_or_silent true true true true false f = inr refl
yes_or_silent true true true true true false = inr refl
yes_or_silent true true true true true true = inl refl

yes_from_all : (a b c d e f : Bool) → a ≡ true → b ≡ true → c ≡ true → d ≡ true → e ≡ true → f ≡ true → answer_of a b c d e f ≡ Some true
yes_from_all true true true true true true g h i j k l = refl
yes_from_all false b c d e f g h i j k l = absurd cc
yes_from_all true false c d e f g h i j k l = absurd cc
yes_from_all true true false d e f g h i j k l = absurd cc
yes_from_all true true true false e f g h i j k l = absurd cc
yes_from_all true true true true false f g h i j k l = absurd cc
yes_from_all true true true true true false g h i j k l = absurd cc

-- ---- the rule of a grant

pub same_from_test : (a b : List ℕ) → bytes_eq a b ≡ true → a ≡ b
same_from_test a b h = (bytes_eq-Decides a b).0 h

pub test_from_same : (a b : List ℕ) → a ≡ b → bytes_eq a b ≡ true
test_from_same a b h = (bytes_eq-Decides a b).1 h

pub record Fits (host : List ℕ) (q : RequestFields) (first last : ℕ) (cmnd : Cmnd) (i : Invocation) : Type 0 where
  pub begun : first ≤ i.at
  pub lasts : i.at ≤ last
  pub user : q.by ≡ i.user
  pub host_is : host ≡ i.host
  pub target : q.runas ≡ i.runas
  pub matches_it : matches cmnd i.path i.args ≡ true

pub fits_from_yes : (defined : List Entry) (host : List ℕ) (q : RequestFields) (first last : ℕ) (cmnd : Cmnd) (i : Invocation)
    → says defined (grant_rule host q first last cmnd) i ≡ Some true → Fits host q first last cmnd i
fits_from_yes defined host q first last cmnd i h =
    let all =
    all_true (leb first i.at) (leb i.at last) (bytes_eq q.by i.user) (bytes_eq host i.host) (bytes_eq q.runas i.runas) (matches cmnd i.path i.args) h in
    record {
      begun = leb-true first i.at all.begun_is;
      lasts = leb-true i.at last all.lasts_is;
      user = same_from_test q.by i.user all.user_is;
      host_is = same_from_test host i.host all.host_is;
      target = same_from_test q.runas i.runas all.target_is;
      matches_it = all.fits_is;
    }

pub yes_from_fits : (defined : List Entry) (host : List ℕ) (q : RequestFields) (first last : ℕ) (cmnd : Cmnd) (i : Invocation)
    → Fits host q first last cmnd i → says defined (grant_rule host q first last cmnd) i ≡ Some true
yes_from_fits defined host q first last cmnd i f =
    yes_from_all _ _ _ _ _ _ (le-leb first i.at f.begun) (le-leb i.at last f.lasts) (test_from_same q.by i.user f.user)
    (test_from_same host i.host f.host_is) (test_from_same q.runas i.runas f.target) f.matches_it

pub grant_answers : (defined : List Entry) (host : List ℕ) (q : RequestFields) (first last : ℕ) (cmnd : Cmnd) (i : Invocation)
    → (says defined (grant_rule host q first last cmnd) i ≡ Some true) ⊎ (says defined (grant_rule host q first last cmnd) i ≡ None)
grant_answers defined host q first last cmnd i =
    yes_or_silent (leb first i.at) (leb i.at last) (bytes_eq q.by i.user) (bytes_eq host i.host) (bytes_eq q.runas i.runas) (matches cmnd i.path i.args)
