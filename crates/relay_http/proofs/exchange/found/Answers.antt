use Rattle.std.proofs.Common.{◌-◌, ℕ, sym, ap, ◌∙◌, subst, length}
use Rattle.relay_http.specs.Needs.{LacksContent}
use Rattle.relay_http.proofs.StageLemmas.{lacks_by, settled_by, settled_whole}
use Rattle.relay_http.proofs.exchange.found.Goals as goal

pub returns-then-is_cut_short : goal.returns-then-is_cut_short
returns-then-is_cut_short c =
    let x = c.is_cut_short.ensures in
    let h = c.requires.0 in
    let at = c.requires.1 in
    let bytes = c.args.bytes.now in
    let missing = c.in-Some.ensures.some in (
      c.requires,
      subst (λ (m : ℕ). LacksContent c.args.offered bytes m)
          (ap (λ (len : ℕ). missing.0 - (length bytes - len)) (sym at.len) ∙ sym missing.2)
          (lacks_by c.args.offered bytes h x.0 missing.0 at.has (x.1 h at) (sym x.2 ∙ c.if-is_cut_short.true) (sym at.size ∙ missing.1)),
    )

pub returns-else-is_cut_short : goal.returns-else-is_cut_short
returns-else-is_cut_short c =
    let x = c.is_cut_short.ensures in
    let h = c.requires.0 in
    let at = c.requires.1 in
    (c.requires, settled_by c.args.offered c.args.bytes.now x.0 (h, at.has, x.1 h at) (sym x.2 ∙ c.if-is_cut_short.false))

pub returns-in-None : goal.returns-in-None
returns-in-None c = (c.requires, settled_whole c.args.offered c.args.bytes.now c.args.head c.requires (c.lacking.ensures.none c.in-None.is))
