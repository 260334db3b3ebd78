-- The line of a case, cut at its spaces, gives what the case says.
use Rattle.std.proofs.Common.{◌≡◌, ◌↔◌, ℕ, true, false, eqb, leb, ◌&&◌, ◌||◌, Bool, List, [], ◌∷◌, ◌∙◌, Option, Some, None, ap, length, refl, subst, sym}
use Rattle.std.specs.Prelude.{codes, MatchOption}
use Rattle.std.specs.List.{AllByRecursion, list_all, slice_split}
use Rattle.std.proofs.lemmas.Bool.{and_parts, false≢true, ne_eqb}
use Rattle.std.proofs.lemmas.List.{append_cancel_right}
use Rattle.sudo_words.specs.Moment.{IsMoment, SpellsMoment, is_stamp_byte, stamp}
use Rattle.sudo_words.specs.Word.{is_arg, is_arg_byte, is_host_byte, is_host_name, is_lower, is_name, is_name_byte, is_path_byte}
use Rattle.sudo_words.proofs.ArgLemmas.{arg_parts}
use Rattle.sudo_words.proofs.MomentLemmas.{stamp_bytes, stamp_is, stamp_spells}
use Rattle.sudo_words.proofs.MomentTexts.{one_spelled}
use Rattle.sudo_words.proofs.NameLemmas.{name_shape, host_shape}
use Rattle.sudo_words.proofs.PathLemmas.{file_each}
use Rattle.sudo_words.proofs.PieceLemmas.{HasNoSpace, cut_words}
use Rattle.sudo_policy.specs.Spelling.{Spells}
use Rattle.sudo_policy.specs.declared.entry.Entry.{Entry}
use Rattle.sudo_policy.proofs.One.{text_one}
use Rattle.sudo_decide.specs.declared.invocation.Invocation.{Invocation}
use Rattle.sudo_beyond.specs.Beyond.{IsInvocation, LiesBeyond, SomethingBeyond}
use Rattle.sudo_decide.specs.declared.scope.Scope.{Scope}
use Rattle.desk_commands.specs.Comparing.{ComparesFiles, IsShown, case_text}
use Rattle.desk_args.specs.declared.status.ExitStatus.{ExitStatus}
use Rattle.desk_args.specs.declared.status.ExitStatus.TheVariants.{Done, Found}
use Rattle.desk_args.proofs.Runs.{same_run}

-- ---- there is no space in what a case says

each_byte : (test : ℕ → Bool) → ((b : ℕ) → test b ≡ true → eqb b 32 ≡ false) → (w : List ℕ) → AllByRecursion (λ b. test b ≡ true) w → HasNoSpace w
each_byte test byte [] all = tt
each_byte test byte (b ∷ bs) all = (byte b all.0, each_byte test byte bs all.1)

all_bytes : (test : ℕ → Bool) → ((b : ℕ) → test b ≡ true → eqb b 32 ≡ false) → (w : List ℕ) → list_all test w ≡ true → HasNoSpace w
all_bytes test byte [] all = tt
all_bytes test byte (b ∷ bs) all =
    let both = and_parts (test b) (list_all test bs) all in
    (byte b both.0, all_bytes test byte bs both.1)

name_byte : (b : ℕ) → is_name_byte b ≡ true → eqb b 32 ≡ false
name_byte b h = ne_eqb b 32 (λ e. false≢true (subst (λ (n : ℕ). is_name_byte n ≡ true) e h))

host_byte : (b : ℕ) → is_host_byte b ≡ true → eqb b 32 ≡ false
host_byte b h = ne_eqb b 32 (λ e. false≢true (subst (λ (n : ℕ). is_host_byte n ≡ true) e h))

path_byte : (b : ℕ) → is_path_byte b ≡ true → eqb b 32 ≡ false
path_byte b h = ne_eqb b 32 (λ e. false≢true (subst (λ (n : ℕ). is_path_byte n ≡ true) e h))

arg_byte : (b : ℕ) → is_arg_byte b ≡ true → eqb b 32 ≡ false
arg_byte b h = ne_eqb b 32 (λ e. false≢true (subst (λ (n : ℕ). is_arg_byte n ≡ true) e h))

stamp_byte : (b : ℕ) → is_stamp_byte b ≡ true → eqb b 32 ≡ false
stamp_byte b h = ne_eqb b 32 (λ e. false≢true (subst (λ (n : ℕ). is_stamp_byte n ≡ true) e h))

name_start : (b : ℕ) → (is_lower b || eqb b 95) ≡ true → eqb b 32 ≡ false
name_start b h = ne_eqb b 32 (λ e. false≢true (subst (λ (n : ℕ). (is_lower n || eqb n 95) ≡ true) e h))

host_start : (b : ℕ) → is_lower b ≡ true → eqb b 32 ≡ false
host_start b h = ne_eqb b 32 (λ e. false≢true (subst (λ (n : ℕ). is_lower n ≡ true) e h))

in_name : (w : List ℕ) → is_name w ≡ true → HasNoSpace w
in_name [] h = absurd cc
in_name (b ∷ bs) h =
    let all = and_parts ((is_lower b || eqb b 95) && list_all is_name_byte bs) (leb (length (b ∷ bs)) 32) (name_shape (b ∷ bs) h) in
    let both = and_parts (is_lower b || eqb b 95) (list_all is_name_byte bs) all.0 in
    (name_start b both.0, all_bytes is_name_byte name_byte bs both.1)

in_host : (w : List ℕ) → is_host_name w ≡ true → HasNoSpace w
in_host [] h = absurd cc
in_host (b ∷ bs) h =
    let all = and_parts (is_lower b && list_all is_host_byte bs) (leb (length (b ∷ bs)) 32) (host_shape (b ∷ bs) h) in
    let both = and_parts (is_lower b) (list_all is_host_byte bs) all.0 in
    (host_start b both.0, all_bytes is_host_byte host_byte bs both.1)

in_args : (args : List (List ℕ)) → AllByRecursion (λ arg. is_arg arg ≡ true) args → AllByRecursion HasNoSpace args
in_args [] all = tt
in_args (a ∷ args) all = (all_bytes is_arg_byte arg_byte a (arg_parts a all.0).bytes, in_args args all.1)

-- ---- cutting the line

cut_case : (i : Invocation) → IsInvocation i
    → slice_split (λ b. eqb b 32) (case_text i) ≡ i.user ∷ i.host ∷ i.runas ∷ stamp i.at ∷ i.path ∷ i.args
cut_case i is =
    cut_words i.user (i.host ∷ i.runas ∷ stamp i.at ∷ i.path ∷ i.args) (in_name i.user is.user) (
      in_host i.host is.host,
      (
        in_name i.runas is.runas,
        (
          each_byte is_stamp_byte stamp_byte (stamp i.at) (stamp_bytes i.at is.at),
          (file_each (λ (b : ℕ). eqb b 32 ≡ false) refl path_byte i.path is.path, in_args i.args is.args),
        ),
      ),
    )

-- ---- what the line tells

record SameParts (user host runas at path : List ℕ) (args : List (List ℕ)) (u h r t p : List ℕ) (gs : List (List ℕ)) : Type 0 where
  same_user : user ≡ u
  same_host : host ≡ h
  same_runas : runas ≡ r
  same_at : at ≡ t
  same_path : path ≡ p
  same_args : args ≡ gs

same_parts : (user host runas at path : List ℕ) (args : List (List ℕ)) (u h r t p : List ℕ) (gs : List (List ℕ))
    → user ∷ host ∷ runas ∷ at ∷ path ∷ args ≡ u ∷ h ∷ r ∷ t ∷ p ∷ gs → SameParts user host runas at path args u h r t p gs
same_parts user host runas at path args u h r t p gs e =
    record { same_user = cc; same_host = cc; same_runas = cc; same_at = cc; same_path = cc; same_args = cc }

one_stamp : (s t : ℕ) → IsMoment s → IsMoment t → stamp s ≡ stamp t → s ≡ t
one_stamp s t of_s of_t same =
    one_spelled (stamp s) s t (stamp_spells (stamp s) s (stamp_is s of_s))
    (subst (λ (text : List ℕ). SpellsMoment text t) (sym same) (stamp_spells (stamp t) t (stamp_is t of_t)))

pub one_case : (i j : Invocation) → IsInvocation i → IsInvocation j → case_text i ≡ case_text j → i ≡ j
one_case i j is js same =
    let parts = same_parts i.user i.host i.runas (stamp i.at) i.path i.args j.user j.host j.runas (stamp j.at) j.path j.args
    (sym (cut_case i is) ∙ ap (slice_split (λ (b : ℕ). eqb b 32)) same ∙ cut_case j js) in
    same_run j i.user i.host i.runas i.at i.path i.args parts.same_user parts.same_host parts.same_runas
    (one_stamp i.at j.at is.at js.at parts.same_at) parts.same_path parts.same_args

more_words : (user host none : List ℕ) (words : List (List ℕ)) → user ∷ host ∷ words ≡ none ∷ [] → ⊥
more_words user host none words e = cc

pub case_is_not_none : (i : Invocation) → IsInvocation i → case_text i ≡ codes "none" → ⊥
case_is_not_none i is same =
    more_words i.user i.host (codes "none") (i.runas ∷ stamp i.at ∷ i.path ∷ i.args)
    (sym (cut_case i is) ∙ ap (slice_split (λ (b : ℕ). eqb b 32)) same ∙ cut_words (codes "none") [] (refl, (refl, (refl, (refl, tt)))) tt)

-- ---- what the answer tells

pub record Tells (nothing : Type 0) (status : ExitStatus) (text : List ℕ) : Type 0 where
  pub by_text : (text ≡ codes "none\n") ↔ nothing
  pub by_status : (status ≡ Done) ↔ nothing

found_told : (scope : Scope) (a b : List Entry) (status : ExitStatus) (text : List ℕ) (found : Option Invocation)
    → MatchOption found (SomethingBeyond scope a b → ⊥) (LiesBeyond scope a b) → IsShown found status text → Tells (SomethingBeyond scope a b → ⊥) status text
found_told scope a b status text None nothing shown = record {
  by_text = (λ _. nothing, λ _. shown.1);
  by_status = (λ _. nothing, λ _. shown.0);
}
found_told scope a b status text (Some i) beyond shown = record {
  by_text = (
    λ none. absurd (case_is_not_none i beyond.form (append_cancel_right (case_text i) (codes "none") (codes "\n") (sym shown.1 ∙ none))),
    λ nothing. absurd (nothing (i, beyond)),
  );
  by_status = (λ done. let other : Found ≡ Done = sym shown.0 ∙ done in absurd cc, λ nothing. absurd (nothing (i, beyond)));
}

pub told : (scope : Scope) (a_file b_file : List ℕ) (a b : List Entry) (status : ExitStatus) (text : List ℕ) → ComparesFiles scope a_file b_file status text
    → Spells a_file a → Spells b_file b → Tells (SomethingBeyond scope a b → ⊥) status text
told scope a_file b_file a b status text is of_a of_b =
    let same_a : is.a ≡ a = text_one a_file is.a a is.a_spelled of_a in
    let same_b : is.b ≡ b = text_one b_file is.b b is.b_spelled of_b in
    rw (← same_a, ← same_b) (found_told scope is.a is.b status text is.found is.exact is.shown)
