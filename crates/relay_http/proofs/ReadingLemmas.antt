-- What has been read of a stream, piece after piece.
use Rattle.std.proofs.Common.{ℕ, List, ◌++◌, Option, Some, None, sym, ap, ◌∙◌, append_assoc}
use Rattle.std.specs.Io.KnownBytes.{Consumes}

pub consumes_both : (a b c : Option (List ℕ)) (xs ys : List ℕ) → Consumes a b xs → Consumes b c ys → Consumes a c (xs ++ ys)
consumes_both None b c xs ys h k = tt
consumes_both (Some s) None c xs ys h k = absurd h
consumes_both (Some s) (Some t) None xs ys h k = absurd k
consumes_both (Some s) (Some t) (Some u) xs ys h k = h ∙ ap (λ (l : List ℕ). xs ++ l) k ∙ sym (append_assoc xs ys u)
