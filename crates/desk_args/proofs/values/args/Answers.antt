use Rattle.std.proofs.Common.{◌≡◌, ◌∙◌, List, arith, inl, length, map, sym, true}
use Rattle.std.specs.List.{list_all}
use Rattle.sudo_words.specs.Word.{is_arg}
use Rattle.std.proofs.lemmas.Result.{IfOk-weaker}
use Rattle.clap.specs.Words.{Text, found_of, rows_of}
use Rattle.desk_args.specs.CommandLine.{HasWords, given_values}
use Rattle.desk_args.proofs.Args.{length-texts}
use Rattle.desk_args.proofs.Rows.{some_values}
use Rattle.desk_args.proofs.values.args.Goals as goal

pub returns-then-texts-gt-MOST_ARGS-clause-only : goal.returns-then-texts-gt-MOST_ARGS-clause-only
returns-then-texts-gt-MOST_ARGS-clause-only c = λ v h.
    let are : map (λ t. t.now) c.in-Some.texts.now ≡ v = some_values c.args.matches.now c.args.id.now _ c.in-Some.ensures ∙ h.0 in
    let count : length c.in-Some.texts.now ≡ length v = length-texts c.in-Some.texts.now v are in
    absurd (omega (arith, h.2))

pub returns-then-texts-gt-MOST_ARGS-clause-word : goal.returns-then-texts-gt-MOST_ARGS-clause-word
returns-then-texts-gt-MOST_ARGS-clause-word c = λ e.
    let count : length c.in-Some.texts.now ≡ length (given_values c.args.id.now (rows_of (found_of c.args.matches.now))) =
    length-texts c.in-Some.texts.now _ (some_values c.args.matches.now c.args.id.now _ c.in-Some.ensures) in
    inl (omega arith)

pub returns-clause-found : goal.returns-clause-found
returns-clause-found c =
    let rows = rows_of (found_of c.args.matches.now) in
    let have : List Text → Type 0 = λ v. (v ≡ map (λ t. t.now) c.in-Some.texts.now) × (list_all is_arg v ≡ true) in
    let weaker : (v : List Text) → have v → HasWords is_arg 64 c.args.id.now rows v = λ v p. (
      sym (some_values c.args.matches.now c.args.id.now _ c.in-Some.ensures) ∙ sym p.0,
      p.1,
      (let count : length c.in-Some.texts.now ≡ length v = length-texts c.in-Some.texts.now v (sym p.0) in omega arith),
    ) in
    IfOk-weaker _ have (HasWords is_arg 64 c.args.id.now rows) weaker c.all_args.ensures.found
