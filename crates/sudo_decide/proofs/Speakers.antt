-- Some entries decide what their last speaker does: one value, which silent entries do not change.
use Rattle.std.proofs.Common.{◌≡◌, Bool, Option, Some, None, List, [], ◌∷◌, ◌++◌, map, refl, sym, ap, ◌∙◌, subst, inl, inr}
use Rattle.std.proofs.lemmas.List.{map-append}
use Rattle.std.specs.Option.{option_map, option_or, unwrap_or}
use Rattle.sudo_policy.specs.declared.entry.Rule.{Rule}
use Rattle.sudo_policy.specs.declared.entry.Entry.{Entry}
use Rattle.sudo_policy.specs.declared.entry.Entry.TheVariants as entries
use Rattle.sudo_decide.specs.declared.decision.Decision.{Decision}
use Rattle.sudo_decide.specs.declared.decision.Decision.TheVariants.{Deny}
use Rattle.sudo_decide.specs.declared.invocation.Invocation.{Invocation}
use Rattle.sudo_decide.specs.Decision.{last_given, says, entry_says, outcome, AllSilent, DecidesByRule, DecidesBy}
use Rattle.sudo_decide.proofs.AnswerLemmas.{last_given-append, option_or-None}

-- ---- options

option_map-is_None : {X Y : Type 0} (f : X → Y) (o : Option X) → option_map f o ≡ None → o ≡ None
option_map-is_None f None h = refl
option_map-is_None f (Some x) h = absurd (cc)

record IsMapped {X Y : Type 0} (f : X → Y) (o : Option X) (y : Y) : Type 0 where
  value : X
  was : o ≡ Some value
  is : y ≡ f value

option_map-is_Some : {X Y : Type 0} (f : X → Y) (o : Option X) (y : Y) → option_map f o ≡ Some y → IsMapped f o y
option_map-is_Some f None y h = absurd (cc)
option_map-is_Some f (Some x) y h = record { value = x; was = refl; is = cc }

option_or-is_None : {X : Type 0} (a b : Option X) → option_or a b ≡ None → (a ≡ None) × (b ≡ None)
option_or-is_None None b h = (refl, h)
option_or-is_None (Some x) b h = absurd (cc)

-- ---- entries

-- what an entry decides, if it speaks
abbrev pub spoken : List Entry → Invocation → Entry → Option Decision
spoken defined i (entries.UserAlias name list) = None
spoken defined i (entries.RunasAlias name list) = None
spoken defined i (entries.HostAlias name list) = None
spoken defined i (entries.CmndAlias name list) = None
spoken defined i (entries.Rule rule) = option_map (outcome rule) (says defined rule i)

spoken-silent : (defined : List Entry) (i : Invocation) (e : Entry) → entry_says defined e i ≡ None → spoken defined i e ≡ None
spoken-silent defined i (entries.UserAlias name list) h = refl
spoken-silent defined i (entries.RunasAlias name list) h = refl
spoken-silent defined i (entries.HostAlias name list) h = refl
spoken-silent defined i (entries.CmndAlias name list) h = refl
spoken-silent defined i (entries.Rule rule) h = ap (option_map (outcome rule)) h

silent_from_spoken : (defined : List Entry) (i : Invocation) (e : Entry) → spoken defined i e ≡ None → entry_says defined e i ≡ None
silent_from_spoken defined i (entries.UserAlias name list) h = refl
silent_from_spoken defined i (entries.RunasAlias name list) h = refl
silent_from_spoken defined i (entries.HostAlias name list) h = refl
silent_from_spoken defined i (entries.CmndAlias name list) h = refl
silent_from_spoken defined i (entries.Rule rule) h = option_map-is_None (outcome rule) (says defined rule i) h

spoken-rule : (defined : List Entry) (i : Invocation) (r : Rule) (answer : Bool)
    → says defined r i ≡ Some answer → spoken defined i (entries.Rule r) ≡ Some (outcome r answer)
spoken-rule defined i r answer h = ap (option_map (outcome r)) h

-- only rules speak
rule_from_spoken : (defined : List Entry) (i : Invocation) (e : Entry) (d : Decision) (after : List Entry)
    → AllSilent defined after i → spoken defined i e ≡ Some d → DecidesByRule defined (e ∷ after) i d
rule_from_spoken defined i (entries.UserAlias name list) d after quiet h = absurd (cc)
rule_from_spoken defined i (entries.RunasAlias name list) d after quiet h = absurd (cc)
rule_from_spoken defined i (entries.HostAlias name list) d after quiet h = absurd (cc)
rule_from_spoken defined i (entries.CmndAlias name list) d after quiet h = absurd (cc)
rule_from_spoken defined i (entries.Rule rule) d after quiet h =
    let found = option_map-is_Some (outcome rule) (says defined rule i) d h in
    record {
      before = [];
      rule = rule;
      after = after;
      answer = found.value;
      entries_are = refl;
      speaks = found.was;
      silent = quiet;
      decision = found.is;
    }

-- ---- the last that speaks

pub last_spoken : List Entry → Invocation → List Entry → Option Decision
last_spoken defined i es = last_given (map (spoken defined i) es)

pub last_spoken-nil : (defined : List Entry) (i : Invocation) → last_spoken defined i [] ≡ None
unfolding last_spoken
last_spoken-nil defined i = refl

pub last_spoken-cons : (defined : List Entry) (i : Invocation) (e : Entry) (es : List Entry)
    → last_spoken defined i (e ∷ es) ≡ option_or (last_spoken defined i es) (spoken defined i e)
unfolding last_spoken
last_spoken-cons defined i e es = refl

last_spoken-append : (defined : List Entry) (i : Invocation) (xs ys : List Entry)
    → last_spoken defined i (xs ++ ys) ≡ option_or (last_spoken defined i ys) (last_spoken defined i xs)
unfolding last_spoken
last_spoken-append defined i xs ys =
    ap last_given (map-append (spoken defined i) xs ys) ∙ last_given-append (map (spoken defined i) xs) (map (spoken defined i) ys)

last_spoken-silent : (defined : List Entry) (i : Invocation) (es : List Entry) → AllSilent defined es i → last_spoken defined i es ≡ None
unfolding last_spoken
last_spoken-silent defined i [] quiet = refl
last_spoken-silent defined i (e ∷ es) quiet =
    ap (λ (o : Option Decision). option_or o (spoken defined i e)) (last_spoken-silent defined i es quiet.1) ∙ spoken-silent defined i e quiet.0

silent_from_last : (defined : List Entry) (i : Invocation) (es : List Entry) → last_spoken defined i es ≡ None → AllSilent defined es i
unfolding last_spoken
silent_from_last defined i [] h = tt
silent_from_last defined i (e ∷ es) h =
    let both = option_or-is_None (last_spoken defined i es) (spoken defined i e) h in
    (silent_from_spoken defined i e both.1, silent_from_last defined i es both.0)

-- a rule after one more entry
one_before : (defined : List Entry) (i : Invocation) (e : Entry) (es : List Entry) (d : Decision)
    → DecidesByRule defined es i d → DecidesByRule defined (e ∷ es) i d
one_before defined i e es d by = record {
  before = e ∷ by.before;
  rule = by.rule;
  after = by.after;
  answer = by.answer;
  entries_are = ap (λ (rest : List Entry). e ∷ rest) by.entries_are;
  speaks = by.speaks;
  silent = by.silent;
  decision = by.decision;
}

rule_by_cases : (defined : List Entry) (i : Invocation) (e : Entry) (es : List Entry) (d : Decision) (o : Option Decision) → last_spoken defined i es ≡ o
    → (last_spoken defined i es ≡ Some d → DecidesByRule defined es i d) → option_or o (spoken defined i e) ≡ Some d → DecidesByRule defined (e ∷ es) i d
rule_by_cases defined i e es d None was later h = rule_from_spoken defined i e d es (silent_from_last defined i es was) h
rule_by_cases defined i e es d (Some c) was later h = one_before defined i e es d (later (was ∙ h))

rule_from_last : (defined : List Entry) (i : Invocation) (es : List Entry) (d : Decision) → last_spoken defined i es ≡ Some d → DecidesByRule defined es i d
unfolding last_spoken
rule_from_last defined i [] d h = absurd (cc)
rule_from_last defined i (e ∷ es) d h = rule_by_cases defined i e es d (last_spoken defined i es) refl (rule_from_last defined i es d) h

-- ---- decisions

-- what the last that speaks decides, or to deny
decision_of : List Entry → List Entry → Invocation → Decision
decision_of defined es i = unwrap_or (last_spoken defined i es) Deny

last_spoken-by_rule : (defined es : List Entry) (i : Invocation) (d : Decision) (by : DecidesByRule defined es i d) → last_spoken defined i es ≡ Some d
last_spoken-by_rule defined es i d by =
    ap (last_spoken defined i) by.entries_are
    ∙ last_spoken-append defined i by.before (entries.Rule by.rule ∷ by.after)
    ∙ ap (λ (o : Option Decision). option_or o (last_spoken defined i by.before))
    (last_spoken-cons defined i (entries.Rule by.rule) by.after
    ∙ ap (λ (o : Option Decision). option_or o (spoken defined i (entries.Rule by.rule))) (last_spoken-silent defined i by.after by.silent)
    ∙ spoken-rule defined i by.rule by.answer by.speaks)
    ∙ ap (λ (x : Decision). Some x) (sym by.decision)

decision_of-Decides : (defined es : List Entry) (i : Invocation) (d : Decision) → DecidesBy defined es i d → decision_of defined es i ≡ d
unfolding decision_of
decision_of-Decides defined es i d (inl by) = ap (λ (o : Option Decision). unwrap_or o Deny) (last_spoken-by_rule defined es i d by)
decision_of-Decides defined es i d (inr by) =
    ap (λ (o : Option Decision). unwrap_or o Deny) (last_spoken-silent defined i es by.silent) ∙ sym by.decision

decides_by_cases : (defined es : List Entry) (i : Invocation) (o : Option Decision) → last_spoken defined i es ≡ o → DecidesBy defined es i (unwrap_or o Deny)
decides_by_cases defined es i None h = inr (record { silent = silent_from_last defined i es h; decision = refl })
decides_by_cases defined es i (Some d) h = inl (rule_from_last defined i es d h)

Decides-decision_of : (defined es : List Entry) (i : Invocation) → DecidesBy defined es i (decision_of defined es i)
unfolding decision_of
Decides-decision_of defined es i = decides_by_cases defined es i (last_spoken defined i es) refl

pub some_decision : (defined es : List Entry) (i : Invocation) → (d : Decision) × DecidesBy defined es i d
some_decision defined es i = (decision_of defined es i, Decides-decision_of defined es i)

pub one_decision : (defined es : List Entry) (i : Invocation) (c d : Decision) → DecidesBy defined es i c → DecidesBy defined es i d → c ≡ d
one_decision defined es i c d x y = sym (decision_of-Decides defined es i c x) ∙ decision_of-Decides defined es i d y

-- where the last that speak decide alike, the decisions are alike
pub decides_alike : (p q : List Entry) (es fs : List Entry) (i j : Invocation) (d : Decision)
    → last_spoken p i es ≡ last_spoken q j fs → DecidesBy p es i d → DecidesBy q fs j d
unfolding decision_of
decides_alike p q es fs i j d same by =
    let decided : decision_of q fs j ≡ d =
    ap (λ (o : Option Decision). unwrap_or o Deny) (sym same) ∙ decision_of-Decides p es i d by in
    let P : Decision → Type 0 = λ x. DecidesBy q fs j x in
    subst P decided (Decides-decision_of q fs j)

-- a silent entry before others changes nothing
last_spoken-silent_cons : (defined after : List Entry) (e : Entry) (i : Invocation)
    → entry_says defined e i ≡ None → last_spoken defined i (e ∷ after) ≡ last_spoken defined i after
last_spoken-silent_cons defined after e i quiet =
    last_spoken-cons defined i e after
    ∙ ap (option_or (last_spoken defined i after)) (spoken-silent defined i e quiet)
    ∙ option_or-None (last_spoken defined i after)

last_spoken-silent_between : (defined before after : List Entry) (e : Entry) (i : Invocation)
    → entry_says defined e i ≡ None → last_spoken defined i (before ++ after) ≡ last_spoken defined i (before ++ e ∷ after)
last_spoken-silent_between defined before after e i quiet =
    last_spoken-append defined i before after
    ∙ ap (λ (o : Option Decision). option_or o (last_spoken defined i before)) (sym (last_spoken-silent_cons defined after e i quiet))
    ∙ sym (last_spoken-append defined i before (e ∷ after))

pub silent_rule : (defined before after : List Entry) (e : Entry) (i : Invocation) (d : Decision)
    → entry_says defined e i ≡ None → DecidesBy defined (before ++ after) i d → DecidesBy defined (before ++ e ∷ after) i d
silent_rule defined before after e i d quiet by =
    decides_alike defined defined (before ++ after) (before ++ e ∷ after) i i d (last_spoken-silent_between defined before after e i quiet) by

pub silent_rule_back : (defined before after : List Entry) (e : Entry) (i : Invocation) (d : Decision)
    → entry_says defined e i ≡ None → DecidesBy defined (before ++ e ∷ after) i d → DecidesBy defined (before ++ after) i d
silent_rule_back defined before after e i d quiet by =
    decides_alike defined defined (before ++ e ∷ after) (before ++ after) i i d (sym (last_spoken-silent_between defined before after e i quiet)) by
