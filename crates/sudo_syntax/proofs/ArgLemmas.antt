-- Arguments at the front of tokens are read in one way.
use Rattle.std.proofs.Common.{◌≡◌, ℕ, ◌≤◌, ◌<◌, true, List, [], ◌∷◌, ◌++◌, length, sym, ap, subst, ◌∙◌, append_assoc, arith}
use Rattle.std.specs.List.{AllByRecursion}
use Rattle.std.proofs.lemmas.List.{append-nil, length-append}
use Rattle.sudo_words.specs.Word.{is_arg}
use Rattle.sudo_words.specs.Command.{arg_text}
use Rattle.sudo_policy.specs.Lex.{Tok, word}
use Rattle.sudo_syntax.specs.private.Fronts.{NoArg, arg_toks}
use Rattle.sudo_syntax.proofs.Leads.{Leads}

abbrev pub AreArgs : List (List ℕ) → Type 0
AreArgs args = AllByRecursion (λ arg. is_arg arg ≡ true) args

-- lawful arguments, and no other argument after them
pub record Fit (args : List (List ℕ)) (r : List Tok) : Type 0 where
  pub each : AreArgs args
  pub few : length args ≤ 16
  pub stops : NoArg r

abbrev pub Whole : List Tok → List (List ℕ) → List Tok → Type 0
Whole ts args r = ts ≡ arg_toks args ++ r

abbrev pub Left : List (List ℕ) → List Tok → List (List ℕ) → List Tok → Type 0
Left out ts args r = (more : List (List ℕ)) × (args ≡ out ++ more) × (ts ≡ arg_toks more ++ r)

all_behind : (out more : List (List ℕ)) → AreArgs (out ++ more) → AreArgs more
all_behind [] more h = h
all_behind (x ∷ out) more h = all_behind out more h.1

-- the argument at the front, and those behind it
pub record Next (out : List (List ℕ)) (text : List ℕ) (next : List Tok) (args : List (List ℕ)) (r : List Tok) : Type 0 where
  pub arg : List ℕ
  pub more : List (List ℕ)
  pub list : args ≡ out ++ arg ∷ more
  pub is : is_arg arg ≡ true
  pub text_is : text ≡ arg_text arg
  pub rest : next ≡ arg_toks more ++ r
  pub room : length out < length args

next_is : (out : List (List ℕ)) (ts : List Tok) (text : List ℕ) (next : List Tok) → ts ≡ word true 0 text ∷ next → (args : List (List ℕ)) (r : List Tok)
    → Fit args r → (more : List (List ℕ)) → args ≡ out ++ more → ts ≡ arg_toks more ++ r → Next out text next args r
next_is out ts text next e args r f [] l t = absurd (f.stops text next (sym t ∙ e))
next_is out ts text next e args r f (y ∷ ys) l t =
    let two = sym e ∙ t in
    record {
      arg = y;
      more = ys;
      list = l;
      is = (all_behind out (y ∷ ys) (subst AreArgs l f.each)).0;
      text_is = cc;
      rest = cc;
      room = omega (arith, ap length l, length-append out (y ∷ ys));
    }

pub next_arg : (out : List (List ℕ)) (ts : List Tok) (text : List ℕ) (next : List Tok) → ts ≡ word true 0 text ∷ next
    → (args : List (List ℕ)) (r : List Tok) → Fit args r → Left out ts args r → Next out text next args r
next_arg out ts text next e args r f h = next_is out ts text next e args r f h.0 h.1 h.2

pub arg_read : (out : List (List ℕ)) (ts : List Tok) (text : List ℕ) (next : List Tok) (a : List ℕ) → ts ≡ word true 0 text ∷ next → text ≡ arg_text a
    → ((y : List ℕ) → is_arg y ≡ true → text ≡ arg_text y → a ≡ y) → Leads Fit (Left out ts) (Left (out ++ a ∷ []) next)
arg_read out ts text next a e t one = record {
  back = λ args r h. (
    a ∷ h.0,
    h.1 ∙ append_assoc out (a ∷ []) h.0,
    e ∙ ap (λ (w : List ℕ). word true 0 w ∷ next) t ∙ ap (λ (n : List Tok). word true 0 (arg_text a) ∷ n) h.2,
  );
  on = λ args r f h.
      let n = next_arg out ts text next e args r f h in
      (n.more, n.list ∙ ap (λ (x : List ℕ). out ++ x ∷ n.more) (sym (one n.arg n.is n.text_is)) ∙ sym (append_assoc out (a ∷ []) n.more), n.rest);
}

no_args : (out : List (List ℕ)) (ts : List Tok) → NoArg ts → (args : List (List ℕ)) (r : List Tok) (more : List (List ℕ))
    → args ≡ out ++ more → ts ≡ arg_toks more ++ r → (out ≡ args) × (ts ≡ r)
no_args out ts n args r [] l t = (sym (l ∙ append-nil out), t)
no_args out ts n args r (y ∷ ys) l t = absurd (n (arg_text y) (arg_toks ys ++ r) t)

pub args_end : (out : List (List ℕ)) (ts : List Tok) → NoArg ts → (args : List (List ℕ)) (r : List Tok) → Left out ts args r → (out ≡ args) × (ts ≡ r)
args_end out ts n args r h = no_args out ts n args r h.0 h.1 h.2
