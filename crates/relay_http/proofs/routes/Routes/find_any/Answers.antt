use Rattle.std.proofs.Common.{ℕ, List, [], Option, Some, sym, subst, refl, ap, ◌∙◌, unwrap_or}
use Rattle.matchit.specs.Params.{walk, named, AllText}
use Rattle.matchit.specs.Rows.{RowsOf}
use Rattle.matchit.specs.Router.{RouteOf}
use Rattle.matchit.specs.Seek.{first}
use Rattle.relay_http.specs.Routes.{part, RouteTakes, second_parameter, parameter}
use Rattle.relay_http.specs.declared.route.Route.{Route}
use Rattle.relay_http.proofs.RouteLemmas.{texts}
use Rattle.relay_http.proofs.routes.Routes.find_any.Goals as goal

pub taken-requires : goal.taken-requires
taken-requires c =
    let found = sym (ap (λ (r : RowsOf (RouteOf Route)). first r c.args.target.now) c.self.invariant) ∙ c.in-Ok.ensures.found in
    let p = c.in-Ok.found.params in
    subst (λ (path : List ℕ). AllText (walk p.pattern.now p.text.now path p.names.now 0 0))
    (sym c.in-Ok.ensures.path) (texts c.args.target.now _ found c.requires)

pub second_taken-requires : goal.second_taken-requires
second_taken-requires c =
    let found = sym (ap (λ (r : RowsOf (RouteOf Route)). first r c.args.target.now) c.self.invariant) ∙ c.in-Ok.ensures.found in
    let p = c.in-Ok.found.params in
    subst (λ (path : List ℕ). AllText (walk p.pattern.now p.text.now path p.names.now 0 0))
    (sym c.in-Ok.ensures.path) (texts c.args.target.now _ found c.requires)

pub returns-in-Ok : goal.returns-in-Ok
unfolding part
returns-in-Ok c =
    let found = sym (ap (λ (r : RowsOf (RouteOf Route)). first r c.args.target.now) c.self.invariant) ∙ c.in-Ok.ensures.found in
    let p = c.in-Ok.found.params in
    subst (λ (o : Option (RouteOf Route)). RouteTakes o c.args.target.now (Some (c.in-Ok.found.value.now, c.taken.result.now, c.second_taken.result.now)))
    (sym found) (
      refl,
      sym (c.taken.ensures ∙ ap
          (λ (path : List ℕ). unwrap_or (named (parameter c.in-Ok.found.value.now) (walk p.pattern.now p.text.now path p.names.now 0 0)) [])
          c.in-Ok.ensures.path),
      sym (c.second_taken.ensures ∙ ap (λ (path : List ℕ).
          unwrap_or (named (second_parameter c.in-Ok.found.value.now) (walk p.pattern.now p.text.now path p.names.now 0 0)) []) c.in-Ok.ensures.path),
    )
