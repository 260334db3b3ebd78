use Rattle.std.proofs.Common.{◌≡◌, None, Some, ap, sym, true≢false, ◌∙◌}
use Rattle.std.proofs.lemmas.Bool.Decides.{Decides-eqb}
use Rattle.messages.specs.Wire.{moment_text}
use Rattle.messages.proofs.Passing.{stamp_found}
use Rattle.messages.proofs.PlainTexts.{moment_stamped}
use Rattle.messages.proofs.same_text.is_stamp.Goals as goal

pub returns-in-Some : goal.returns-in-Some
returns-in-Some c = λ moment.
    let found = c.in-Some.found in
    let t = c.args.moment in (
      λ e. stamp_found c.args.text.now found c.in-Some.ensures.found ∙ ap moment_text ((Decides-eqb found t).0 (sym c.eq.ensures ∙ e)),
      λ same.
          let read = c.read_stamp.ensures.only t (rw same (moment_stamped t moment)) in
          let is : found ≡ t = let both : Some found ≡ Some t = sym c.in-Some.is ∙ read in cc in
          c.eq.ensures ∙ (Decides-eqb found t).1 is,
    )

pub returns-in-None : goal.returns-in-None
returns-in-None c = λ moment.
    let t = c.args.moment in (
      λ e. absurd (true≢false (sym e)),
      λ same.
          let read = c.read_stamp.ensures.only t (rw same (moment_stamped t moment)) in
          let both : None ≡ Some t = sym c.in-None.is ∙ read in
          absurd cc,
    )
