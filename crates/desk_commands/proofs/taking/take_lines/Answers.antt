use Rattle.std.proofs.Common.{ap, OnOk, Result, Ok, Err, inl, inr, map, string_bytes, subst, sym}
use Rattle.desk_store.specs.Sets.{SameSet}
use Rattle.desk.specs.Delivery.{delivery_of}
use Rattle.desk_commands.proofs.BroughtLemmas.{taken}
use Rattle.desk_commands.proofs.LeavingLemmas.{if_err, none_taken, same_set, some_taken}
use Rattle.desk_commands.proofs.OverLemmas.{nothing_said}
use Rattle.desk_store.proofs.ServingLemmas.{served_as}
use Rattle.desk_commands.proofs.WantLemmas.{none_wanting, wanting_as}
use Rattle.desk_commands.specs.Taking.{HadMemory}
use Rattle.desk_commands.specs.declared.refusal.JobRefusal.TheVariants.{Desk}
use Rattle.desk_commands.proofs.taking.take_lines.Goals as goal

on_ok : {T E P Q : Type 0} (r : Result T E) → (P → Q) → OnOk r P → OnOk r Q
on_ok (Ok x) f p = f p
on_ok (Err e) f p = tt

pub returns-clause-taken : goal.returns-clause-taken
returns-clause-taken g c =
    let K = g.K.Keeper in
    let is = taken c.args.desk.now.roster.says c.as_str.result.now (g.R.Read.remaining c.args.input.now) (map delivery_of c.in_ok-lines.lines.items) _
    c.in_ok-answers.answers.items c.as_slice-2.result.now (K.is_up c.deliver_all.new.self.keeper)
    (K.holds c.args.desk.now.keeper) (K.holds c.deliver_all.new.self.keeper) (string_bytes c.in_ok-said.said)
    c.as_str-2.result.now (rw (c.as_str.ensures.value, ← c.roster.ensures) c.first_relay.ensures) c.in_ok-lines.ensures.read
    (ap (map delivery_of) c.as_slice.ensures.value) c.as_slice-2.ensures.value c.in_ok-answers.ensures.answers c.in_ok-answers.ensures.held
    c.in_ok-said.ensures.memory c.in_ok-said.ensures.said c.as_str-2.ensures.value in
    on_ok c.say.result (λ said. (is.0, c.as_str-2.result.now, is.1, said, is.2)) c.say.ensures.said

pub returns-in_err-lines-clause-said : goal.returns-in_err-lines-clause-said
returns-in_err-lines-clause-said g c = if_err _ (inl (nothing_said (g.E.Write.contents c.args.err.now)))

pub returns-in_err-answers-clause-said : goal.returns-in_err-answers-clause-said
returns-in_err-answers-clause-said g c = if_err _ (inl (nothing_said (g.E.Write.contents c.args.err.now)))

pub returns-in_err-said-clause-said : goal.returns-in_err-said-clause-said
returns-in_err-said-clause-said g c = if_err _ (inl (nothing_said (g.E.Write.contents c.args.err.now)))

pub returns-clause-said : goal.returns-clause-said
returns-clause-said g c =
    let K = g.K.Keeper in
    let is = taken c.args.desk.now.roster.says c.as_str.result.now (g.R.Read.remaining c.args.input.now) (map delivery_of c.in_ok-lines.lines.items) _
    c.in_ok-answers.answers.items c.as_slice-2.result.now (K.is_up c.deliver_all.new.self.keeper)
    (K.holds c.args.desk.now.keeper) (K.holds c.deliver_all.new.self.keeper) (string_bytes c.in_ok-said.said)
    c.as_str-2.result.now (rw (c.as_str.ensures.value, ← c.roster.ensures) c.first_relay.ensures) c.in_ok-lines.ensures.read
    (ap (map delivery_of) c.as_slice.ensures.value) c.as_slice-2.ensures.value c.in_ok-answers.ensures.answers c.in_ok-answers.ensures.held
    c.in_ok-said.ensures.memory c.in_ok-said.ensures.said c.as_str-2.ensures.value in
    if_err c.say.result (inr (is.0, c.as_str-2.result.now, is.1, c.say.ensures.front))

pub returns-in_err-lines-clause-left : goal.returns-in_err-lines-clause-left
returns-in_err-lines-clause-left g c = λ _.
    let holds = g.K.Keeper.holds c.args.desk.now.keeper in
    none_taken c.args.desk.now.roster.says (g.R.Read.remaining c.args.input.now) holds holds (same_set holds)

pub returns-in_err-answers-clause-left : goal.returns-in_err-answers-clause-left
returns-in_err-answers-clause-left g c = λ _.
    let K = g.K.Keeper in
    let old = c.args.desk.now in
    none_taken old.roster.says (g.R.Read.remaining c.args.input.now) (K.holds old.keeper) (K.holds c.deliver_all.new.self.keeper)
    (subst (λ d. SameSet (K.holds old.keeper) (K.holds d.keeper)) (sym c.in_err-answers.ensures.refused) (same_set (K.holds old.keeper)))

pub returns-in_err-said-clause-left : goal.returns-in_err-said-clause-left
returns-in_err-said-clause-left g c = λ up.
    let K = g.K.Keeper in
    some_taken c.args.desk.now.roster.says (g.R.Read.remaining c.args.input.now) c.as_str.result.now (map delivery_of c.in_ok-lines.lines.items) _
    c.in_ok-answers.answers.items (K.holds c.args.desk.now.keeper) (K.holds c.deliver_all.new.self.keeper) c.in_ok-lines.ensures.read
    (ap (map delivery_of) c.as_slice.ensures.value) c.in_ok-answers.ensures.answers (c.in_ok-answers.ensures.held up)

pub returns-clause-left : goal.returns-clause-left
returns-clause-left g c = λ up.
    let K = g.K.Keeper in
    some_taken c.args.desk.now.roster.says (g.R.Read.remaining c.args.input.now) c.as_str.result.now (map delivery_of c.in_ok-lines.lines.items) _
    c.in_ok-answers.answers.items (K.holds c.args.desk.now.keeper) (K.holds c.deliver_all.new.self.keeper) c.in_ok-lines.ensures.read
    (ap (map delivery_of) c.as_slice.ensures.value) c.in_ok-answers.ensures.answers (c.in_ok-answers.ensures.held up)

pub returns-in_err-answers-clause-served : goal.returns-in_err-answers-clause-served
returns-in_err-answers-clause-served g c =
    let told = c.from_residual-in_err-answers in
    served_as ⊥ _ (λ none. absurd none)
    (λ _. wanting_as (Desk c.in_err-answers.field-0.0) told.result told.ensures.1 (inl c.in_err-answers.ensures.err)) c.deliver_all.ensures.served

pub returns-in_err-said-clause-served : goal.returns-in_err-said-clause-served
returns-in_err-said-clause-served g c =
    let told = c.from_residual-in_err-said in
    served_as ⊥ _ (λ none. absurd none)
    (λ _. wanting_as c.in_err-said.field-0.0 told.result told.ensures.1 c.in_err-said.ensures.wanting) c.deliver_all.ensures.served

-- there is something to say: nothing was wanting at any line
pub returns-clause-served : goal.returns-clause-served
returns-clause-served g c =
    let had = subst HadMemory c.as_slice-2.ensures.value c.in_ok-said.ensures.memory in
    served_as ⊥ _ (λ none. absurd none) (λ want. absurd (none_wanting c.in_ok-answers.answers.items had want)) c.in_ok-answers.ensures.served
