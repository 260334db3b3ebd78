use Rattle.std.proofs.Common.{ℕ, List, map, sym, ap, ◌∙◌, subst}
use Rattle.sudo_decide.specs.declared.invocation.Invocation.{Invocation}
use Rattle.sudo_compiled.specs.declared.plain.PlainRule.{PlainRule}
use Rattle.sudo_compiled.specs.Compiled.{AnswerAlikeFor, SameNames}
use Rattle.sudo_beyond.specs.Cases.{of_run, of_target, invocation_of}
use Rattle.sudo_beyond.specs.Answer.{FirstOf}
use Rattle.sudo_beyond.specs.private.Compared.{IsAnsweredGap}
use Rattle.sudo_beyond.proofs.CompiledGaps.{gap_of_those, gap_of_all, same_names_runs}
use Rattle.sudo_beyond.proofs.Gaps.{first_of_same_on, gaps_of_none, none_is_empty, if_ok}
use Rattle.sudo_beyond.proofs.search.of_target.Goals as goal

pub returns-in_default-first : goal.returns-in_default-first
returns-in_default-first c =
    gaps_of_none (IsAnsweredGap c.args.a.now c.args.b.now) (of_run c.args.cases.now c.args.user.now c.args.host.now c.args.runas.now) c.args.cases.now.runs
    (λ run. ap (λ (ts : List ℕ). map (invocation_of c.args.user.now c.args.host.now c.args.runas.now run) ts)
    (sym c.as_slice-2.ensures ∙ none_is_empty c.as_slice-2.result.now (sym c.in_default-first.ensures.value)))

pub returns : goal.returns
returns c =
    let a : List PlainRule = c.args.a.now in
    let b : List PlainRule = c.args.b.now in
    let x : List PlainRule = c.bearing_on-allowing.result.now in
    let y : List PlainRule = c.bearing_on-refusing.result.now in
    let i : Invocation = c.in_ok-i.i in
    let by_a : AnswerAlikeFor a x i = subst (λ (rules : List PlainRule). AnswerAlikeFor rules x i) c.rules.ensures c.bearing_on-allowing.ensures in
    let by_b : AnswerAlikeFor b y i = subst (λ (rules : List PlainRule). AnswerAlikeFor rules y i) c.rules-2.ensures c.bearing_on-refusing.ensures in
    if_ok c.try_runs.result (λ found first. subst (λ (is : List Invocation). FirstOf (IsAnsweredGap a b) is found)
    (ap (λ (j : Invocation). of_target c.args.cases.now j.user j.host j.runas) c.in_ok-i.ensures) (first_of_same_on (SameNames i)
    (IsAnsweredGap x y) (IsAnsweredGap a b) (of_target c.args.cases.now i.user i.host i.runas) found (λ j. gap_of_those a b x y i j by_a by_b)
    (λ j. gap_of_all a b x y i j by_a by_b) (same_names_runs i c.args.cases.now c.args.cases.now.runs) first)) c.try_runs.ensures
