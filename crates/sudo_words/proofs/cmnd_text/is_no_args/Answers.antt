use Rattle.std.proofs.Common.{◌≡◌, ◌∙◌, ◌∷◌, [], List, ℕ, ap, sym, get_or}
use Rattle.std.specs.Prelude.{codes}
use Rattle.std.proofs.lemmas.Slice.Eq.{bytes_eq-Decides}
use Rattle.sudo_words.proofs.ReadingLemmas.{one_word}
use Rattle.sudo_words.proofs.cmnd_text.is_no_args.Goals as goal

pub returns-in-len1 : goal.returns-in-len1
returns-in-len1 c =
    let word = (get_or c.args.words.now 0 record { ref_ptr = (0, 0); now = [] }).now in
    let words = one_word c.args.words.now record { ref_ptr = (0, 0); now = [] } c.in-len1.len_at_least c.in-len1.len_below in
    let decides = bytes_eq-Decides word (codes "\"\"") in (
      λ h. words ∙ ap (λ (w : List ℕ). w ∷ []) (decides.0 (sym c.eq.ensures ∙ h)),
      λ e. let both = sym words ∙ e in let same : word ≡ codes "\"\"" = cc in c.eq.ensures ∙ decides.1 same,
    )
