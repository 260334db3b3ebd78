use Rattle.std.proofs.Common.{◌≡◌, ◌⊎◌, ◌<◌, ◌≤◌, List, length, refl, inl, inr}
use Rattle.std.specs.Prelude.{string_bytes}
use Rattle.std.proofs.lemmas.Result.{err_from_is_err_and}
use Rattle.messages.specs.declared.message.Message.{Message}
use Rattle.store_tables.specs.Sets.{Lists}
use Rattle.desk.specs.declared.refusal.Refusal.TheVariants.{UnknownHost}
use Rattle.outcomes.specs.HostFile.{Line, AreLines}
use Rattle.outcomes.specs.LinesLeft.{IsFileLeft, lines_left}
use Rattle.desk.specs.Refusals.{IsWant}
use Rattle.desk.proofs.QueryLemmas.{same_listed}
use Rattle.outcomes.proofs.SetLemmas.{alike_sets, left_alike, lines_alike, turned}
use Rattle.desk.proofs.desk.Desk.file_of.Goals as goal

pub returns-in_err-file-clause-few : goal.returns-in_err-file-clause-few
returns-in_err-file-clause-few g c =
    let K = g.K.Keeper in
    let old = c.self.inside.keeper in
    let new = c.known_of.new.keeper in
    let f = c.self.inside.roster.says in
    let host = c.args.host.now in
    let known = c.in_ok-known.ensures.known in
    let p = err_from_is_err_and c.from_residual-in_err-file.result c.from_residual-in_err-file.ensures.1 in
    let answer : (set : List Message) (ls : List Line) → K.is_up new → Lists (K.holds old) set → AreLines f set host ls
    → length (lines_left c.args.after ls) ≤ 8_192 → (p.0 ≡ UnknownHost) ⊎ IsWant p.0 = λ set ls up lists are few.
    let same = same_listed (K.holds old) (known up).0 set (known up).1 lists in
    let there = lines_alike f set (known up).0 (turned f (known up).0 set (alike_sets f (known up).0 set same)) host ls are in
    let memory = c.in_err-file.ensures.few (known up).0 ls (known up).2.0 there few in
    rw (p.2, memory) (inr (inl refl)) in
    rw (← c.self.view_is, p.1) answer

pub returns-clause-file : goal.returns-clause-file
returns-clause-file g c =
    let K = g.K.Keeper in
    let old = c.self.inside.keeper in
    let new = c.known_of.new.keeper in
    let f = c.self.inside.roster.says in
    let after = c.args.after in
    let known = c.in_ok-known.ensures.known in
    let text = string_bytes c.in_ok-file.field-0 in
    let answer : (set : List Message) → K.is_up new → Lists (K.holds old) set → IsFileLeft f c.self.inside.base set c.args.host.now after text = λ set up lists.
    let same = same_listed (K.holds old) (known up).0 set (known up).1 lists in
    left_alike f (known up).0 set (alike_sets f (known up).0 set same) c.self.inside.base c.args.host.now after text
    (c.in_ok-file.ensures.file (known up).0 (known up).2.0) in
    rw (← c.self.view_is) answer

pub returns-clause-many : goal.returns-clause-many
returns-clause-many g c =
    let K = g.K.Keeper in
    let old = c.self.inside.keeper in
    let new = c.known_of.new.keeper in
    let f = c.self.inside.roster.says in
    let host = c.args.host.now in
    let known = c.in_ok-known.ensures.known in
    let answer : (set : List Message) (ls : List Line) → K.is_up new → Lists (K.holds old) set
    → AreLines f set host ls → 8_192 < length (lines_left c.args.after ls) → ⊥ = λ set ls up lists are past.
    let same = same_listed (K.holds old) (known up).0 set (known up).1 lists in
    c.in_ok-file.ensures.many (known up).0 ls (known up).2.0
    (lines_alike f set (known up).0 (turned f (known up).0 set (alike_sets f (known up).0 set same)) host ls are) past in
    rw (← c.self.view_is) answer
