use Rattle.std.proofs.Common.{◌≡◌, ℕ, List, ◌++◌, ap, ◌∙◌, refl, append_assoc, codes, decimal, sym}
use Rattle.relay_http.specs.Response.{status_text, allow_line, line_end}
use Rattle.relay_http.proofs.response_head.put_head.Goals as goal

joined : (a b c d e f g : List ℕ) → (((((a ++ b) ++ c) ++ d) ++ e) ++ f) ++ g ≡ a ++ (b ++ (c ++ (d ++ (e ++ (f ++ g)))))
joined a b c d e f g = simp append_assoc refl

-- as the definition has them
apart : (a s e t l c n k : List ℕ) → (((((((((((a ++ s) ++ e) ++ t) ++ e) ++ l) ++ c) ++ n) ++ e) ++ k) ++ e) ++ e)
    ≡ a ++ (s ++ ((e ++ (t ++ e)) ++ (l ++ (c ++ (n ++ (e ++ (k ++ (e ++ e))))))))
apart a s e t l c n k = simp append_assoc refl

onto : (next old piece shown front : List ℕ) → next ≡ old ++ piece → old ≡ front → piece ≡ shown → next ≡ front ++ shown
onto next old piece shown front e is same = e ∙ ap (λ (x : List ℕ). x ++ piece) is ∙ ap (λ (x : List ℕ). front ++ x) same

pub returns-clause-head : goal.returns-clause-head
returns-clause-head c =
    let o1 = c.put-at.ensures.put in
    let o2 = onto _ _ _ _ _ c.put_status-at.ensures.put o1 refl in
    let o3 = onto _ _ _ _ _ c.put-at-2.ensures.put o2 refl in
    let o4 = onto _ _ _ _ _ c.put-at-3.ensures.put o3 c.allow_line.ensures.text in
    let o5 = onto _ _ _ _ _ c.put-at-4.ensures.put o4 refl in
    let o6 = onto _ _ _ _ _ c.put_decimal-at.ensures.put o5 refl in
    let o7 = onto _ _ _ _ _ c.put.ensures.put o6 refl in
    o7 ∙ joined (codes "HTTP/1.1 ") (status_text c.args.status) (line_end ++ (codes "Content-Type: text/plain" ++ line_end)) (allow_line c.args.status)
    (codes "Content-Length: ") (decimal c.args.size) (line_end ++ (codes "Connection: close" ++ (line_end ++ line_end)))
    ∙ sym (apart (codes "HTTP/1.1 ") (status_text c.args.status) line_end (codes "Content-Type: text/plain")
    (allow_line c.args.status) (codes "Content-Length: ") (decimal c.args.size) (codes "Connection: close"))
