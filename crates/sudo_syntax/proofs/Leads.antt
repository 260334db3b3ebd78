-- A reader's way through tokens: what is spelled as a whole, and what is left to read.
use Rattle.std.proofs.Common.{List}
use Rattle.sudo_policy.specs.Lex.{Tok}

-- What is left leads back to a whole, and a whole that is fit goes on with what is left.
pub record Leads {V : Type 0} (Fit Whole Left : V → List Tok → Type 0) : Type 0 where
  pub back : (v : V) (r : List Tok) → Left v r → Whole v r
  pub on : (v : V) (r : List Tok) → Fit v r → Whole v r → Left v r

pub leads_on : {V : Type 0} (F W L M : V → List Tok → Type 0) → Leads F W L → Leads F L M → Leads F W M
leads_on F W L M a b = record {
  back = λ v r h. a.back v r (b.back v r h);
  on = λ v r f h. b.on v r f (a.on v r f h);
}
