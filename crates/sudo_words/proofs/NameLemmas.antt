-- Names of users, targets and hosts: they have their shape and are not keywords; and files that are `sudoedit`.
use Rattle.std.proofs.Common.{◌≡◌, ℕ, ◌-◌, true, not, List, ◌++◌, length, take, refl, ◌↔◌}
use Rattle.std.specs.Prelude.{codes}
use Rattle.std.proofs.lemmas.Bool.{and_parts, both_ways}
use Rattle.std.proofs.lemmas.Bool.Decides.{Decides-eqb}
use Rattle.std.proofs.lemmas.Slice.Eq.{ends_is}
use Rattle.sudo_words.specs.Word.{is_name, is_name_shape, is_host_name, is_label, is_keyword, is_sudoedit}
use Rattle.sudo_words.specs.Command.{IsLawful}
use Rattle.sudo_words.specs.declared.cmnd.ArgRule.{ArgRule}
use Rattle.sudo_words.specs.declared.cmnd.Cmnd.TheVariants.{Path}

pub name_shape : (w : List ℕ) → is_name w ≡ true → is_name_shape w ≡ true
name_shape w h = (and_parts (is_name_shape w) (not (is_keyword w)) h).0

pub host_shape : (w : List ℕ) → is_host_name w ≡ true → is_label w ≡ true
host_shape w h = (and_parts (is_label w) (not (is_keyword w)) h).0

-- ---- files that sudo takes for its own command

pub sudoedit_end : (path : List ℕ) → (is_sudoedit path ≡ true) ↔ ((front : List ℕ) × (path ≡ front ++ codes "/sudoedit"))
sudoedit_end path =
    let both = ends_is Decides-eqb path (codes "/sudoedit") (is_sudoedit path) refl in
    (λ h. (take (length path - 9) path, both.0 h), λ found. both.1 found.0 found.1)

pub lawful_end : (front : List ℕ) (rule : ArgRule) → IsLawful (Path (front ++ codes "/sudoedit") rule) → ⊥
lawful_end front rule is = both_ways (is_sudoedit (front ++ codes "/sudoedit")) is.head.2 ((sudoedit_end (front ++ codes "/sudoedit")).1 (front, refl))
