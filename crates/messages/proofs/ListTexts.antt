-- A list of values that is a list of texts.
use Rattle.std.proofs.Common.{◌≡◌, ℕ, zero, suc, ◌+◌, ◌-◌, ◌<◌, ◌≤◌, ◌∙◌, Bool, true, false, List, [], ◌∷◌, ◌++◌, Option, Some}
use Rattle.std.proofs.Common.{None, option_map, Bor, Global, length, map, get_or, take, drop, refl, sym, ap, ap₂, arith, take_all}
use Rattle.std.proofs.lemmas.List.{get_or-map, length-map, take_more}
use Rattle.json.specs.Json.{Json, string, Items, item, no_items}
use Rattle.json.specs.Find.{as_str}
use Rattle.json.specs.Value.{value_view, items_view}
use Rattle.json.specs.declared.value.Value.{Value}
use Rattle.sudo_words.specs.Command.{cmnd_text}
use Rattle.sudo_words.specs.declared.cmnd.Cmnd.{Cmnd}
use Rattle.messages.specs.private.Members.{text_items}
use Rattle.sudo_words.specs.Lists.{is_before}
use Rattle.messages.specs.Order.{rises_from}

-- as many values as texts
pub length-strings : (vs : List (Value Global)) (ws : List (List ℕ)) → items_view vs ≡ text_items ws → length vs ≡ length ws
length-strings [] [] e = refl
length-strings [] (w ∷ ws) e = absurd cc
length-strings (v ∷ vs) [] e = absurd cc
length-strings (v ∷ vs) (w ∷ ws) e = let rest : items_view vs ≡ text_items ws = cc in ap suc (length-strings vs ws rest)

-- each value is the text at its index
pub view-at : (vs : List (Value Global)) (ws : List (List ℕ)) (i : ℕ) (v : Value Global) → items_view vs ≡ text_items ws → i < length vs → v ≡ get_or vs i v
    → (i < length ws) × (value_view v ≡ string (get_or ws i []))
view-at [] ws i v e less is = absurd (omega arith)
view-at (x ∷ vs) [] i v e less is = absurd cc
view-at (x ∷ vs) (w ∷ ws) zero v e less is = let first : value_view x ≡ string w = cc in (omega arith, ap value_view is ∙ first)
view-at (x ∷ vs) (w ∷ ws) (suc i) v e less is =
    let rest : items_view vs ≡ text_items ws = cc in
    let later = view-at vs ws i v rest (omega arith) is in
    (omega (arith, later.0), later.1)

push_text : (vs : List (Value Global)) (ws : List (List ℕ)) (v : Value Global) (w : List ℕ) → value_view v ≡ string w
    → items_view vs ≡ text_items ws → items_view (vs ++ v ∷ []) ≡ text_items (ws ++ w ∷ [])
push_text [] [] v w here e = ap (λ (j : Json). item j no_items) here
push_text [] (x ∷ ws) v w here e = absurd cc
push_text (u ∷ vs) [] v w here e = absurd cc
push_text (u ∷ vs) (x ∷ ws) v w here e =
    let first : value_view u ≡ string x = cc in
    let rest : items_view vs ≡ text_items ws = cc in
    ap₂ (λ (j : Json) (more : Items). item j more) first (push_text vs ws v w here rest)

-- ---- the first text of a list

pub record IsFirstText (vs : List (Value Global)) (v : Value Global) (ws : List (List ℕ)) : Type 0 where
  pub first : List ℕ
  pub more : List (List ℕ)
  pub texts_are : ws ≡ first ∷ more
  pub view_is : value_view v ≡ string first
  pub rest : items_view (take (length vs - 1) (drop 1 vs)) ≡ text_items more

pub first_text : (vs : List (Value Global)) (v : Value Global) (ws : List (List ℕ)) → 1 ≤ length vs → v ≡ get_or vs 0 v
    → items_view vs ≡ text_items ws → IsFirstText vs v ws
first_text [] v ws some is e = absurd (omega arith)
first_text (x ∷ xs) v [] some is e = absurd cc
first_text (x ∷ xs) v (w ∷ ws) some is e =
    let here : value_view x ≡ string w = cc in
    let later : items_view xs ≡ text_items ws = cc in
    let all : take (length (x ∷ xs) - 1) xs ≡ xs = take_all (length (x ∷ xs) - 1) xs (omega arith) in
    record { first = w; more = ws; texts_are = refl; view_is = ap value_view is ∙ here; rest = ap items_view all ∙ later }

pub no_texts : (vs : List (Value Global)) (ws : List (List ℕ)) → length vs < 1 → items_view vs ≡ text_items ws → ws ≡ []
no_texts [] [] none e = refl
no_texts [] (w ∷ ws) none e = absurd cc
no_texts (v ∷ vs) ws none e = absurd (omega arith)

-- the text that a value is
pub as_text : (o : Option (Bor (List ℕ))) (v : Value Global) (text : Bor (List ℕ)) (w : List ℕ)
    → option_map (λ s. s.now) o ≡ as_str (value_view v) → o ≡ Some text → value_view v ≡ string w → text.now ≡ w
as_text o v text w same is e =
    let both : Some text.now ≡ Some w = ap (option_map (λ (s : Bor (List ℕ)). s.now)) (sym is) ∙ same ∙ ap as_str e in
    cc

pub some_text : (o : Option (Bor (List ℕ))) (v : Value Global) (w : List ℕ) → option_map (λ s. s.now) o ≡ as_str (value_view v)
    → o ≡ None → value_view v ≡ string w → ⊥
some_text o v w same is e =
    let both : None ≡ Some w = ap (option_map (λ (s : Bor (List ℕ)). s.now)) (sym is) ∙ same ∙ ap as_str e in
    cc

pub goes_on : (low text first : List ℕ) (more ws : List (List ℕ)) (rises : Bool) → ws ≡ first ∷ more
    → text ≡ first → is_before low text ≡ true → rises ≡ rises_from text more → rises ≡ rises_from low ws
goes_on low text first more ws rises whole same before later =
    let here : is_before low first ≡ true = rw (← same) before in
    rw (whole, here, ← same) later

pub stops : (low text first : List ℕ) (more ws : List (List ℕ)) → ws ≡ first ∷ more → text ≡ first → is_before low text ≡ false → false ≡ rises_from low ws
stops low text first more ws whole same before =
    let here : is_before low first ≡ false = rw (← same) before in
    rw (whole, here) refl

-- one more text was read
pub one_more_text : (vs : List (Value Global)) (ws new : List (List ℕ)) (v : Value Global) (w : List ℕ) (i : ℕ) → i < length vs → v ≡ get_or vs i v
    → value_view v ≡ string w → new ≡ ws ++ w ∷ [] → items_view (take i vs) ≡ text_items ws → items_view (take (i + 1) vs) ≡ text_items new
one_more_text vs ws new v w i less is here more before =
    rw (take_more vs i v less, more) (push_text (take i vs) ws (get_or vs i v) w (ap value_view (sym is) ∙ here) before)

-- ---- the same, where the texts are those of commands
pub view-cmnd_at : (vs : List (Value Global)) (cs : List Cmnd) (i : ℕ) (v : Value Global) (d : Cmnd) → items_view vs ≡ text_items (map cmnd_text cs)
    → i < length vs → v ≡ get_or vs i v → (i < length cs) × (value_view v ≡ string (cmnd_text (get_or cs i d)))
view-cmnd_at vs cs i v d e less is =
    let here = view-at vs (map cmnd_text cs) i v e less is in
    let within : i < length cs = omega (arith, here.0, length-map cs cmnd_text) in
    (within, here.1 ∙ ap string (get_or-map cmnd_text cs i d [] within))

-- one more element was read
pub read_more : {X : Type 0} (new old : List X) (x d : X) (wanted : List X) (i : ℕ) → new ≡ old ++ x ∷ []
    → old ≡ take i wanted → i < length wanted → x ≡ get_or wanted i d → new ≡ take (i + 1) wanted
read_more new old x d wanted i more before within is = let step = take_more wanted i d within in cc

-- the whole list was read
pub read_all : {X : Type 0} (found wanted : List X) (i : ℕ) → found ≡ take i wanted → length wanted ≤ i → found ≡ wanted
read_all found wanted i e past = e ∙ take_all i wanted past
