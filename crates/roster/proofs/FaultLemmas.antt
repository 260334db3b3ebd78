-- The text of a roster has no fault, and any other text has at most one least fault.
use Rattle.std.proofs.Common.{◌≡◌, ◌≢◌, ◌<◌, ℕ, ◌∙◌, ◌==◌, cond, List, Some, None, true, false, refl, sym, ap, subst, arith}
use Rattle.std.proofs.lemmas.Bool.{true≢false}
use Rattle.std.proofs.lemmas.Option.{same_Some, none-some}
use Rattle.sudo_words.specs.declared.cmnd.Cmnd.{Cmnd}
use Rattle.toml.specs.Data.{Members}
use Rattle.toml.specs.Parse.{parse_document}
use Rattle.roster.specs.Document.{has_known_keys, fields_of}
use Rattle.roster.specs.Faults.{Has, IsLeastFault, IsRosterText, TextSays, fault_number}
use Rattle.roster.specs.Fields.{RosterFields, in_texts}
use Rattle.roster.specs.Rules.{IsCmndText, GoodNames, are_known, has_self_conflict, in_range}
use Rattle.roster.specs.private.Stages.{IsDraftOf}
use Rattle.roster.specs.declared.fault.RosterFault.{RosterFault}
use Rattle.roster.specs.declared.fault.RosterFault.TheVariants.{NotToml, UnknownKey, WrongType, BadName, UnknownName, SelfConflict, OutOfRange, NoMemory}
use Rattle.roster.proofs.Texts.{good_in_texts, known_in_texts, apart_in_texts, range_in_texts}

-- a text has one document
one_document : (text : List ℕ) (d e : Members) → parse_document text ≡ Some d → parse_document text ≡ Some e → d ≡ e
one_document text d e a b = same_Some d e (sym a ∙ b)

-- what a roster's text says is the roster in texts
says_in_texts : (text : List ℕ) (f : RosterFields Cmnd) (t : RosterFields (List ℕ)) → IsRosterText text f → TextSays text t → t ≡ in_texts f
says_in_texts text f t r s =
    same_Some t (in_texts f) (sym s.2 ∙ ap fields_of (one_document text s.0 r.document s.1 r.toml) ∙ r.types)

pub no_fault : (text : List ℕ) (f : RosterFields Cmnd) (fault : RosterFault) → IsRosterText text f → ¬ Has text fault
no_fault text f NotToml r h = none-some r.document (sym h ∙ r.toml)
no_fault text f UnknownKey r h =
    true≢false (sym r.keys ∙ ap has_known_keys (one_document text r.document h.0 r.toml h.1) ∙ h.2)
no_fault text f WrongType r h =
    none-some (in_texts f) (sym h.2 ∙ ap fields_of (one_document text h.0 r.document h.1 r.toml) ∙ r.types)
no_fault text f BadName r h =
    h.2 (subst (GoodNames IsCmndText) (sym (says_in_texts text f h.0 r h.1)) (good_in_texts f r.names))
no_fault text f UnknownName r h =
    true≢false (sym r.known ∙ sym (known_in_texts f) ∙ ap are_known (sym (says_in_texts text f h.0 r h.1)) ∙ h.2)
no_fault text f SelfConflict r h =
    true≢false (sym h.2 ∙ ap has_self_conflict (says_in_texts text f h.0 r h.1) ∙ apart_in_texts f ∙ r.apart)
no_fault text f OutOfRange r h =
    true≢false (sym r.range ∙ sym (range_in_texts text f) ∙ ap (in_range text) (sym (says_in_texts text f h.0 r h.1)) ∙ h.2)
no_fault text f NoMemory r h = h

-- so it is refused only if memory runs out
pub only_memory : (text : List ℕ) (f : RosterFields Cmnd) (e : RosterFault) → IsRosterText text f → (e ≢ NoMemory → IsLeastFault text e) → e ≡ NoMemory
only_memory text f NotToml r h = absurd (no_fault text f NotToml r (h (λ e. absurd cc)).0)
only_memory text f UnknownKey r h = absurd (no_fault text f UnknownKey r (h (λ e. absurd cc)).0)
only_memory text f WrongType r h = absurd (no_fault text f WrongType r (h (λ e. absurd cc)).0)
only_memory text f BadName r h = absurd (no_fault text f BadName r (h (λ e. absurd cc)).0)
only_memory text f UnknownName r h = absurd (no_fault text f UnknownName r (h (λ e. absurd cc)).0)
only_memory text f SelfConflict r h = absurd (no_fault text f SelfConflict r (h (λ e. absurd cc)).0)
only_memory text f OutOfRange r h = absurd (no_fault text f OutOfRange r (h (λ e. absurd cc)).0)
only_memory text f NoMemory r h = refl

-- ---- faults by their numbers

abbrev fault_at : ℕ → RosterFault
fault_at n =
    cond (n == 1) NotToml (cond (n == 2) UnknownKey (cond (n == 3) WrongType (cond (n == 4) BadName
    (cond (n == 5) UnknownName (cond (n == 6) SelfConflict (cond (n == 7) OutOfRange NoMemory))))))

at_its_number : (fault : RosterFault) → fault_at (fault_number fault) ≡ fault
at_its_number NotToml = refl
at_its_number _ = refl

pub one_fault : (text : List ℕ) (d e : RosterFault) → IsLeastFault text d → IsLeastFault text e → d ≡ e
one_fault text d e a b =
    let not_below : ¬ (fault_number d < fault_number e) = λ l. b.1 d l a.0 in
    let not_above : ¬ (fault_number e < fault_number d) = λ l. a.1 e l b.0 in
    let same : fault_number d ≡ fault_number e = omega (arith, not_below, not_above) in
    sym (at_its_number d) ∙ ap fault_at same ∙ at_its_number e

-- what the draft of a text says is all that it says
one_saying : (text : List ℕ) (t u : RosterFields (List ℕ)) → IsDraftOf text t → TextSays text u → t ≡ u
one_saying text t u d s = same_Some t u (sym d.types ∙ ap fields_of (one_document text d.document s.0 d.toml s.1) ∙ s.2)

-- the first fault has no lower one
pub none_below_one : (text : List ℕ) (lower : RosterFault) → fault_number lower < 1 → ¬ Has text lower
none_below_one text NoMemory l h = h
none_below_one text _ l h = omega arith

only_from_three : (text : List ℕ) (d : Members) → parse_document text ≡ Some d
    → has_known_keys d ≡ true → (lower : RosterFault) → fault_number lower < 3 → ¬ Has text lower
only_from_three text d toml keys NotToml l h = none-some d (sym h ∙ toml)
only_from_three text d toml keys UnknownKey l h =
    true≢false (sym keys ∙ ap has_known_keys (one_document text d h.0 toml h.1) ∙ h.2)
only_from_three text d toml keys NoMemory l h = h
only_from_three text d toml keys _ l h = omega arith

-- a text with known keys only, in which a key is missing or a value does not have its type, has that fault and no lower one
pub of_wrong_type : (text : List ℕ) (d : Members) → parse_document text ≡ Some d → has_known_keys d ≡ true → fields_of d ≡ None → IsLeastFault text WrongType
of_wrong_type text d toml keys wrong = ((d, toml, wrong), only_from_three text d toml keys)

-- a text with known keys only, whose values have their types, has only greater faults than that
only_from_four : (text : List ℕ) (t : RosterFields (List ℕ)) → IsDraftOf text t → (lower : RosterFault) → fault_number lower < 4 → ¬ Has text lower
only_from_four text t d NotToml l h = none-some d.document (sym h ∙ d.toml)
only_from_four text t d UnknownKey l h =
    true≢false (sym d.keys ∙ ap has_known_keys (one_document text d.document h.0 d.toml h.1) ∙ h.2)
only_from_four text t d WrongType l h =
    none-some t (sym h.2 ∙ ap fields_of (one_document text h.0 d.document h.1 d.toml) ∙ d.types)
only_from_four text t d NoMemory l h = h
only_from_four text t d _ l h = omega arith

pub of_bad_name : (text : List ℕ) (t : RosterFields (List ℕ)) → IsDraftOf text t → ¬ GoodNames IsCmndText t → IsLeastFault text BadName
of_bad_name text t d bad = ((t, (d.document, d.toml, d.types), bad), only_from_four text t d)

-- if its names are good, only greater faults than a bad name
only_from_five : (text : List ℕ) (t : RosterFields (List ℕ)) → IsDraftOf text t
    → GoodNames IsCmndText t → (lower : RosterFault) → fault_number lower < 5 → ¬ Has text lower
only_from_five text t d good NotToml l h = only_from_four text t d NotToml (omega arith) h
only_from_five text t d good UnknownKey l h = only_from_four text t d UnknownKey (omega arith) h
only_from_five text t d good WrongType l h = only_from_four text t d WrongType (omega arith) h
only_from_five text t d good BadName l h = h.2 (subst (GoodNames IsCmndText) (one_saying text t h.0 d h.1) good)
only_from_five text t d good NoMemory l h = h
only_from_five text t d good _ l h = omega arith

pub of_unknown_name : (text : List ℕ) (t : RosterFields (List ℕ)) → IsDraftOf text t
    → GoodNames IsCmndText t → are_known t ≡ false → IsLeastFault text UnknownName
of_unknown_name text t d good unknown = ((t, (d.document, d.toml, d.types), unknown), only_from_five text t d good)

-- if they are also listed, only greater faults than an unknown name
only_from_six : (text : List ℕ) (t : RosterFields (List ℕ)) → IsDraftOf text t → GoodNames IsCmndText t
    → are_known t ≡ true → (lower : RosterFault) → fault_number lower < 6 → ¬ Has text lower
only_from_six text t d good known NotToml l h = only_from_five text t d good NotToml (omega arith) h
only_from_six text t d good known UnknownKey l h = only_from_five text t d good UnknownKey (omega arith) h
only_from_six text t d good known WrongType l h = only_from_five text t d good WrongType (omega arith) h
only_from_six text t d good known BadName l h = only_from_five text t d good BadName (omega arith) h
only_from_six text t d good known UnknownName l h = true≢false (sym known ∙ ap are_known (one_saying text t h.0 d h.1) ∙ h.2)
only_from_six text t d good known SelfConflict l h = omega arith
only_from_six text t d good known OutOfRange l h = omega arith
only_from_six text t d good known NoMemory l h = h

pub of_self_conflict : (text : List ℕ) (t : RosterFields (List ℕ)) → IsDraftOf text t → GoodNames IsCmndText t
    → are_known t ≡ true → has_self_conflict t ≡ true → IsLeastFault text SelfConflict
of_self_conflict text t d good known itself = ((t, (d.document, d.toml, d.types), itself), only_from_six text t d good known)

-- if also no duty conflicts with itself, only greater faults than that
only_from_seven : (text : List ℕ) (t : RosterFields (List ℕ)) → IsDraftOf text t → GoodNames IsCmndText t → are_known t ≡ true → has_self_conflict t ≡ false
    → (lower : RosterFault) → fault_number lower < 7 → ¬ Has text lower
only_from_seven text t d good known apart NotToml l h = only_from_six text t d good known NotToml (omega arith) h
only_from_seven text t d good known apart UnknownKey l h = only_from_six text t d good known UnknownKey (omega arith) h
only_from_seven text t d good known apart WrongType l h = only_from_six text t d good known WrongType (omega arith) h
only_from_seven text t d good known apart BadName l h = only_from_six text t d good known BadName (omega arith) h
only_from_seven text t d good known apart UnknownName l h = only_from_six text t d good known UnknownName (omega arith) h
only_from_seven text t d good known apart SelfConflict l h = true≢false (sym h.2 ∙ ap has_self_conflict (sym (one_saying text t h.0 d h.1)) ∙ apart)
only_from_seven text t d good known apart OutOfRange l h = omega arith
only_from_seven text t d good known apart NoMemory l h = h

pub of_out_of_range : (text : List ℕ) (t : RosterFields (List ℕ)) → IsDraftOf text t → GoodNames IsCmndText t → are_known t ≡ true → has_self_conflict t ≡ false
    → in_range text t ≡ false → IsLeastFault text OutOfRange
of_out_of_range text t d good known apart out = ((t, (d.document, d.toml, d.types), out), only_from_seven text t d good known apart)

-- a text with a document is TOML, and has only greater faults than that
pub read_at_all : (text : List ℕ) (d : Members) → parse_document text ≡ Some d → (lower : RosterFault) → fault_number lower < 2 → ¬ Has text lower
read_at_all text d p NotToml l h = none-some d (sym h ∙ p)
read_at_all text d p NoMemory l h = h
read_at_all text d p _ l h = omega arith
