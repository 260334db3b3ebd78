use Rattle.std.proofs.Common.{inl, refl, sym}
use Rattle.sudo_policy.proofs.LineTexts.{front_is, backslash_no_body, bad_front}
use Rattle.sudo_syntax.proofs.pieces.without_comment.Goals as goal

pub returns-in-None-clause-found : goal.returns-in-None-clause-found
returns-in-None-clause-found c = inl (record { each = c.requires; ends = c.in-None.ensures }, refl)

pub returns-in-Some-clause-found : goal.returns-in-Some-clause-found
returns-in-Some-clause-found c = record {
  whole = c.in-Some.ensures;
  each = front_is c.args.line.now c.in-Some.front.now c.requires c.in-Some.ensures;
  ends = sym c.if-may_go_on.ensures;
}

pub returns-in-Some-2-clause-body : goal.returns-in-Some-2-clause-body
returns-in-Some-2-clause-body c = backslash_no_body c.args.line.now c.in-Some.front.now c.requires c.in-Some.ensures

pub returns-in-Some-2-clause-front : goal.returns-in-Some-2-clause-front
returns-in-Some-2-clause-front c = bad_front c.args.line.now c.in-Some.front.now c.in-Some.ensures (sym c.if-may_go_on.ensures)
