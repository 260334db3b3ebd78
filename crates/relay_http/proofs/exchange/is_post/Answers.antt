use Rattle.std.proofs.Common.{List, ℕ, ap, ◌∙◌, codes}
use Rattle.std.specs.Str.{bytes_eq}
use Rattle.relay_http.proofs.StageLemmas.{method_found}
use Rattle.relay_http.proofs.exchange.is_post.Goals as goal

pub returns : goal.returns
returns c = λ h has.
    c.allow.ensures ∙ ap (λ (m : List ℕ). bytes_eq m (codes "POST")) (c.of.ensures ∙ method_found c.args.bytes.now c.args.head.now h c.requires has)
