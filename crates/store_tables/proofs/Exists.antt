-- More layers of the resolver: a test of a column against a parameter.
use Rattle.std.proofs.Common.{None, Some, Option, true, false, ◌≡◌, [], suc, ◌-◌, nat_lt, ℕ, Ok, refl}
use Rattle.sqlite.specs.Term.{Term, col}
use Rattle.sqlite_sql.specs.declared.ops.BinaryOp.TheVariants as by
use Rattle.sqlite_sql.specs.declared.ops.CompareOp.TheVariants as compare
use Rattle.sqlite_value.specs.declared.keys.Collation.{Collation}
use Rattle.sqlite_resolve.specs.Lowering.{Checked, begin, finish, spend, either, passed, written_or, chosen}
use Rattle.sqlite_resolve.specs.Terms.{conjuncts}
use Rattle.sqlite_resolve.specs.declared.state.State.{State}
use Rattle.sqlite_resolve.specs.declared.state.Passes.{Passes}
use Rattle.sqlite_resolve.specs.Scope.{Context}
use Rattle.sqlite_resolve.specs.Compare.{compared}
use Rattle.sqlite_resolve.specs.Expr.{lower_to, node, opened, passes, operation, both, wanted_truth, tests_truth, tests_alias, combine}
use Rattle.sqlite_resolve.specs.Body.{tests}
use Rattle.sqlite_ast.specs.declared.Expr.{Expr, out-Expr}
use Rattle.sqlite_ast.specs.declared.Expr.TheOpen.{Expr-F}
use Rattle.sqlite_ast.specs.declared.Binary.TheVariants as binary

abbrev pub Low : Type 0
Low = Context → Expr → State → Checked (Term × State)

abbrev pub opening : State → State
opening st = record st { budget = st.budget - 1; written = None; last = record { collation = None; is_written = false } }

abbrev pub closing : Option Collation → Passes → State → State
closing outer hands st = record st { written = either outer st.written; last = written_or st.written (passed hands st.last) }

pub lower_node : (n : ℕ) (cx : Context) (e : Expr) (hands : Passes) (t : Term) (st s1 : State) → nat_lt 1 st.budget ≡ true
    → passes e ≡ hands → opened (lower_to n) cx e (opening st) ≡ Ok (t, s1) → lower_to (suc n) cx e st ≡ Ok (t, closing st.written hands s1)
unfolding lower_to node begin finish spend
lower_node n cx e hands t st s1 paid is h = rw (paid, h, is) refl

pub opened_equal : (low : Low) (cx : Context) (e a b : Expr) (x y : Term) (st s1 s2 : State) → out-Expr e ≡ Expr-F.Binary binary.Eq a b
    → low cx a st ≡ Ok (x, s1) → low cx b s1 ≡ Ok (y, s2) → opened low cx e st ≡ Ok (compared cx (by.Compare compare.Eq (chosen s1.last s2.last)) x y, s2)
unfolding opened operation both wanted_truth tests_truth tests_alias combine
opened_equal low cx e a b x y st s1 s2 is h k = rw (is, h, k) refl

pub opened_parameter : (low : Low) (cx : Context) (e : Expr) (n : ℕ) (st : State)
    → out-Expr e ≡ Expr-F.Parameter n → opened low cx e st ≡ Ok (col 0 (n - 1), st)
unfolding opened
opened_parameter low cx e n st is = rw is refl

pub tests_some : (low : Low) (cx : Context) (e : Expr) (t : Term) (st s1 : State)
    → low cx e st ≡ Ok (t, s1) → tests low cx [] (Some e) st ≡ Ok (conjuncts t, s1)
unfolding tests
tests_some low cx e t st s1 h = rw h refl
