use Rattle.std.proofs.Common.{◌≡◌, ℕ, refl}
use Rattle.sudo_words.specs.Moment.{SpellsMoment}
use Rattle.sudo_syntax.proofs.DateLemmas.{first_bound, last_bound}
use Rattle.sudo_syntax.proofs.spec.with_bound.Goals as goal

pub returns-in_err-moment_of-clause-only : goal.returns-in_err-moment_of-clause-only
returns-in_err-moment_of-clause-only c = λ before after h. let none = c.in_err-moment_of.ensures.only h.0 h.1 in absurd cc

pub returns-then-gives-clause-only : goal.returns-then-gives-clause-only
returns-then-gives-clause-only c = λ before after h.
    let t = c.in_ok-moment_of.field-0 in
    let one : (m : ℕ) → SpellsMoment c.args.time.now m → m ≡ t = λ m s. (let e = c.in_ok-moment_of.ensures.only m s in cc) in
    first_bound c.args.bounds.not_before c.args.bounds.not_after c.args.option.now c.args.time.now t (c.if-gives.ensures.yes refl).0 one before after h

pub returns-in_err-moment_of-2-clause-only : goal.returns-in_err-moment_of-2-clause-only
returns-in_err-moment_of-2-clause-only c = λ before after h. let none = c.in_err-moment_of-2.ensures.only h.0 h.1 in absurd cc

pub returns-then-gives-2-clause-only : goal.returns-then-gives-2-clause-only
returns-then-gives-2-clause-only c = λ before after h.
    let t = c.in_ok-moment_of-2.field-0 in
    let one : (m : ℕ) → SpellsMoment c.args.time.now m → m ≡ t = λ m s. (let e = c.in_ok-moment_of-2.ensures.only m s in cc) in
    last_bound c.args.bounds.not_before c.args.bounds.not_after c.args.option.now c.args.time.now t (c.if-gives-2.ensures.yes refl).0 one before after h
