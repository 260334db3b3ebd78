-- Least privilege: what is admitted lies inside its ceiling, and allowing more denies nothing that was admitted.
use Rattle.std.proofs.Common.{◌≡◌, ℕ, ◌+◌, ◌≤◌, true, List, Some, sym, ◌∙◌, subst, arith}
use Rattle.std.specs.Prelude.{Contains}
use Rattle.std.proofs.lemmas.Option.{same_Some}
use Rattle.sudo_words.specs.declared.cmnd.Cmnd.{Cmnd}
use Rattle.messages.specs.Fields.{RequestFields}
use Rattle.messages.specs.declared.message.Message.{Message}
use Rattle.messages.specs.declared.message.Message.TheVariants.{Request, Verdict}
use Rattle.roster.specs.Fields.{CeilingFields, RosterFields}
use Rattle.roster.specs.Relations.{ceiling_at, holds}
use Rattle.grants.specs.Admission.{Admits, AdmitsRequest, IsInTime, IsWithin, LiesInsideOne}
use Rattle.grants.specs.Privilege.{AsksFor, CeilingAllows, GivesMore, IsWider}

-- a request is admitted under the one ceiling that it names
at_ceiling : (f : RosterFields Cmnd) (r : RequestFields) (c : CeilingFields Cmnd) (a : AdmitsRequest f r) → ceiling_at f r.ceiling ≡ Some c → a.ceiling ≡ c
at_ceiling f r c a is = same_Some a.ceiling c (sym a.may_ask.ceiling_is ∙ is)

allowed : (r : RequestFields) (c : CeilingFields Cmnd) (host target path : List ℕ) (args : List (List ℕ)) → IsWithin r c
    → AsksFor r host target path args → CeilingAllows c host target path args
allowed r c host target path args w k =
    let one = w.commands k.cmnd k.of_request in
    record {
      host_is = w.hosts host k.host_is;
      target_is = subst (Contains c.runas) k.target_is w.target;
      cmnd = one.0;
      of_ceiling = one.1;
      reaches_it = one.2 path args k.reaches_it;
    }

pub inside : (f : RosterFields Cmnd) (r : RequestFields) (c : CeilingFields Cmnd) (host target path : List ℕ) (args : List (List ℕ)) → AdmitsRequest f r
    → ceiling_at f r.ceiling ≡ Some c → AsksFor r host target path args → CeilingAllows c host target path args
inside f r c host target path args a is k = allowed r c host target path args (subst (IsWithin r) (at_ceiling f r c a is) a.within) k

pub in_time : (f : RosterFields Cmnd) (r : RequestFields) (c : CeilingFields Cmnd) (moment : ℕ) → AdmitsRequest f r → ceiling_at f r.ceiling ≡ Some c
    → r.from ≤ moment → moment ≤ r.until → (r.at ≤ moment) × (moment ≤ r.from + c.longest)
in_time f r c moment a is low high =
    let t : IsInTime r c = subst (IsInTime r) (at_ceiling f r c a is) a.in_time in
    (omega (arith, t.ahead), omega (arith, t.short))

-- ---- more

-- what lies inside one of the commands lies inside one of those of a wider ceiling
wider_commands : (c d : CeilingFields Cmnd) → IsWider c d → (k : Cmnd) → LiesInsideOne c.commands k → LiesInsideOne d.commands k
wider_commands c d w k h =
    let one = w.commands h.0 h.1 in
    (one.0, one.1, λ path args reached. one.2 path args (h.2 path args reached))

pub wider : (r : RequestFields) (c d : CeilingFields Cmnd) → IsWider c d → IsWithin r c → IsInTime r c → IsWithin r d × IsInTime r d
wider r c d w within t = (
  record {
    hosts = λ host m. w.hosts host (within.hosts host m);
    target = w.runas r.runas within.target;
    commands = λ k m. wider_commands c d w k (within.commands k m);
  },
  record { short = omega (arith, t.short, w.longest); ahead = t.ahead; forward = t.forward },
)

pub listed : (c d : CeilingFields Cmnd) → d.ask ≡ c.ask → c.longest ≤ d.longest → ((host : List ℕ) → Contains c.hosts host → Contains d.hosts host)
    → ((target : List ℕ) → Contains c.runas target → Contains d.runas target)
    → ((cmnd : Cmnd) → Contains c.commands cmnd → Contains d.commands cmnd) → IsWider c d
listed c d ask longest hosts runas commands = record {
  ask = ask;
  hosts = hosts;
  runas = runas;
  commands = λ k m. (k, commands k m, λ path args reached. reached);
  longest = longest;
}

pub more : (f g : RosterFields Cmnd) (m : Message) → GivesMore f g → Admits f m → Admits g m
more f g (Request r) gives a =
    let next = gives.ceilings r.ceiling a.ceiling a.may_ask.ceiling_is in
    let both = wider r a.ceiling next.0 next.2 a.within a.in_time in
    record {
      ceiling = next.0;
      may_ask = record {
        listed = gives.people r.by a.may_ask.listed;
        ceiling_is = next.1;
        may_ask = gives.duties r.by next.0.ask r.at (subst (λ (duty : List ℕ). holds f r.by duty r.at ≡ true) (sym next.2.ask) a.may_ask.may_ask);
      };
      within = both.0;
      in_time = both.1;
    }
more f g (Verdict v) gives a = record { listed = gives.people v.by a.listed; asker_listed = gives.people v.of a.asker_listed }
