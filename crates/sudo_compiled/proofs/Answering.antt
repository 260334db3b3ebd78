-- A list, or rules, read from the last back.
use Rattle.std.proofs.Common.{◌≡◌, ℕ, Bool, true, false, ◌&&◌, if◌then◌else◌, Option, Some, None, List, [], ◌∷◌, ◌++◌, map, refl, sym, ap, ◌∙◌, subst}
use Rattle.std.specs.Prelude.{unwrap_or}
use Rattle.std.specs.Option.{option_map, option_or}
use Rattle.std.proofs.lemmas.List.{map_push}
use Rattle.sudo_policy.specs.declared.entry.Rule.{Rule}
use Rattle.sudo_policy.specs.declared.entry.Entry.{Entry}
use Rattle.sudo_policy.specs.declared.entry.Entry.TheVariants as entries
use Rattle.sudo_policy.specs.declared.tags.Tags.{Tags}
use Rattle.sudo_decide.specs.declared.decision.Decision.{Decision}
use Rattle.sudo_decide.specs.declared.decision.Decision.TheVariants.{Deny}
use Rattle.sudo_decide.specs.declared.invocation.Invocation.{Invocation}
use Rattle.sudo_decide.specs.Decision as defined
use Rattle.sudo_decide.specs.Decision.{is_yes, last_given, signed_answer, list_answer, DecidesBy}
use Rattle.sudo_policy.specs.declared.entry.Signed.{Signed}
use Rattle.sudo_decide.proofs.AnswerLemmas.{option_or-None, last_given-append, list_answer-push}
use Rattle.sudo_decide.proofs.DecisionLemmas.{decides_silent_last, decides_rule_last}
use Rattle.sudo_compiled.specs.declared.plain.PlainRule.{PlainRule}
use Rattle.sudo_compiled.specs.Compiled.{SameNames, plain_is_about, plains_say, cmnds_say, plain_takes_part, plain_says, plain_outcome}
use Rattle.sudo_compiled.specs.Compiled.{spoken, last_spoken, answer}
use Rattle.sudo_compiled.specs.private.Writing.{IsWritten}

-- one more rule answers, unless it is silent
pub last_spoken-push : (rules : List PlainRule) (r : PlainRule) (i : Invocation)
    → last_spoken (rules ++ r ∷ []) i ≡ option_or (spoken i r) (last_spoken rules i)
last_spoken-push rules r i = ap last_given (map_push (spoken i) rules r) ∙ last_given-append (map (spoken i) rules) (spoken i r ∷ [])

pub answer_speaks : (rules : List PlainRule) (r : PlainRule) (i : Invocation) (d : Decision) → spoken i r ≡ Some d → answer (rules ++ r ∷ []) i ≡ d
answer_speaks rules r i d speaks =
    ap (λ (o : Option Decision). unwrap_or o Deny) (last_spoken-push rules r i ∙ ap (λ (o : Option Decision). option_or o (last_spoken rules i)) speaks)

pub answer_silent : (rules : List PlainRule) (r : PlainRule) (i : Invocation) → spoken i r ≡ None → answer (rules ++ r ∷ []) i ≡ answer rules i
answer_silent rules r i quiet =
    ap (λ (o : Option Decision). unwrap_or o Deny) (last_spoken-push rules r i ∙ ap (λ (o : Option Decision). option_or o (last_spoken rules i)) quiet)

-- nor does a silent one at the front answer
pub answer_silent_first : (rules : List PlainRule) (r : PlainRule) (i : Invocation) → spoken i r ≡ None → answer (r ∷ rules) i ≡ answer rules i
answer_silent_first rules r i quiet =
    ap (λ (o : Option Decision). unwrap_or o Deny) (ap (option_or (last_spoken rules i)) quiet ∙ option_or-None (last_spoken rules i))

-- ---- a rule that is written out

says_from : Bool → Bool → Option Bool → Option Bool
says_from dates about cmnd = if dates && about then cmnd else None

written_says : (by : List Entry) (r : Rule) (w : PlainRule) (i : Invocation) → IsWritten by r w → plain_says w i ≡ defined.says by r i
unfolding says_from
written_says by r w i is =
    ap (λ (dates : Bool). says_from dates (plain_is_about w i) (cmnds_say i.path i.args w.cmnds)) (is.dates i.at)
    ∙ ap (λ (about : Bool). says_from (defined.takes_part r i.at) about (cmnds_say i.path i.args w.cmnds)) (is.about i)
    ∙ ap (says_from (defined.takes_part r i.at) (defined.is_about by r i)) (is.cmnd i)

written_outcome : (by : List Entry) (r : Rule) (w : PlainRule) (b : Bool) → IsWritten by r w → plain_outcome w b ≡ defined.outcome r b
written_outcome by r w b is = ap (λ (tags : Tags). defined.decision_of tags b) is.tags

by_what_is_said : (by es : List Entry) (r : Rule) (w : PlainRule) (rules : List PlainRule) (i : Invocation) (o : Option Bool) → IsWritten by r w
    → plain_says w i ≡ o → DecidesBy by es i (answer rules i) → DecidesBy by (es ++ entries.Rule r ∷ []) i (answer (rules ++ w ∷ []) i)
by_what_is_said by es r w rules i None is said decided =
    let P : Decision → Type 0 = λ d. DecidesBy by (es ++ entries.Rule r ∷ []) i d in
    subst P (sym (answer_silent rules w i (ap (option_map (plain_outcome w)) said)))
    (decides_silent_last by es (entries.Rule r) i (answer rules i) (sym (written_says by r w i is) ∙ said) decided)
by_what_is_said by es r w rules i (Some b) is said decided =
    let P : Decision → Type 0 = λ d. DecidesBy by (es ++ entries.Rule r ∷ []) i d in
    let here : answer (rules ++ w ∷ []) i ≡ defined.outcome r b =
    answer_speaks rules w i (plain_outcome w b) (ap (option_map (plain_outcome w)) said) ∙ written_outcome by r w b is in
    subst P (sym here) (decides_rule_last by es r i b (sym (written_says by r w i is) ∙ said))

pub rule_written : (by es : List Entry) (r : Rule) (w : PlainRule) (rules : List PlainRule) (i : Invocation) → IsWritten by r w
    → DecidesBy by es i (answer rules i) → DecidesBy by (es ++ entries.Rule r ∷ []) i (answer (rules ++ w ∷ []) i)
rule_written by es r w rules i is decided = by_what_is_said by es r w rules i (plain_says w i) is refl decided

-- ---- lists

or_signed_yes : (negated : Bool) (a : Option Bool) → option_or (signed_answer negated (Some true)) a ≡ signed_answer negated (Some true)
or_signed_yes true a = refl
or_signed_yes false a = refl

or_signed_silence : (negated : Bool) (a : Option Bool) → option_or (signed_answer negated None) a ≡ a
or_signed_silence true a = refl
or_signed_silence false a = refl

-- the last item answers for the list, unless it is silent
pub list_says_yes : {X : Type 0} (item_says : X → Option Bool) (list front : List (Signed X)) (x : Signed X)
    → list ≡ front ++ x ∷ [] → item_says x.item ≡ Some true → signed_answer x.negated (Some true) ≡ list_answer item_says list
list_says_yes item_says list front x is says =
    sym (ap (list_answer item_says) is
    ∙ list_answer-push item_says front x
    ∙ ap (λ (a : Option Bool). option_or (signed_answer x.negated a) (list_answer item_says front)) says
    ∙ or_signed_yes x.negated (list_answer item_says front))

pub list_passes : {X : Type 0} (item_says : X → Option Bool) (list front : List (Signed X)) (x : Signed X) → list ≡ front ++ x ∷ [] → item_says x.item ≡ None
    → list_answer item_says front ≡ list_answer item_says list
list_passes item_says list front x is silent =
    sym (ap (list_answer item_says) is
    ∙ list_answer-push item_says front x
    ∙ ap (λ (a : Option Bool). option_or (signed_answer x.negated a) (list_answer item_says front)) silent
    ∙ or_signed_silence x.negated (list_answer item_says front))

pub about_alike : (a b c d e f : Option Bool) → a ≡ d → b ≡ e → c ≡ f → (is_yes a && is_yes b && is_yes c) ≡ (is_yes d && is_yes e && is_yes f)
about_alike a b c d e f p q r =
    ap (λ (x : Option Bool). is_yes x && is_yes b && is_yes c) p ∙ ap (λ (x : Option Bool). is_yes d && is_yes x && is_yes c) q
    ∙ ap (λ (x : Option Bool). is_yes d && is_yes e && is_yes x) r

-- ---- a rule that is not about the user, the host and the target is silent

about_same : (r : PlainRule) (i j : Invocation) → SameNames i j → plain_is_about r j ≡ plain_is_about r i
about_same r i j same =
    about_alike (plains_say j.user r.users) (plains_say j.host r.hosts) (plains_say j.runas r.runas)
    (plains_say i.user r.users) (plains_say i.host r.hosts) (plains_say i.runas r.runas)
    (ap (λ (name : List ℕ). plains_say name r.users) same.user)
    (ap (λ (name : List ℕ). plains_say name r.hosts) same.host)
    (ap (λ (name : List ℕ). plains_say name r.runas) same.runas)

says_nothing : (dates : Bool) (said : Option Bool) → says_from dates false said ≡ None
unfolding says_from
says_nothing true said = refl
says_nothing false said = refl

silent_says : (r : PlainRule) (i j : Invocation) → SameNames i j → plain_is_about r i ≡ false → plain_says r j ≡ None
unfolding says_from
silent_says r i j same other =
    ap (λ (about : Bool). says_from (plain_takes_part r j.at) about (cmnds_say j.path j.args r.cmnds)) (about_same r i j same ∙ other)
    ∙ says_nothing (plain_takes_part r j.at) (cmnds_say j.path j.args r.cmnds)

pub silent_of_others : (r : PlainRule) (i j : Invocation) → SameNames i j → plain_is_about r i ≡ false → spoken j r ≡ None
silent_of_others r i j same other = ap (option_map (plain_outcome r)) (silent_says r i j same other)
