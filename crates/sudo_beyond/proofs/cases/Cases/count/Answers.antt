use Rattle.std.proofs.Common.{◌≡◌, ℕ, ◌*◌, min, List, length, ap, ◌∙◌}
use Rattle.sudo_beyond.specs.declared.run.Run.{Run}
use Rattle.sudo_beyond.proofs.Products.{saturated}
use Rattle.sudo_beyond.proofs.cases.Cases.count.Goals as goal

pub returns : goal.returns
returns c =
    let most : ℕ = 18_446_744_073_709_551_615 in
    let users : ℕ = length c.args.self.now.users in
    let hosts : ℕ = length c.args.self.now.hosts in
    let targets : ℕ = length c.args.self.now.targets in
    let runs : ℕ = length c.args.self.now.runs in
    let moments : ℕ = length c.args.self.now.moments in
    let with_hosts : c.times-hosts.result ≡ min (users * hosts) most =
    c.times-hosts.ensures
    ∙ ap (λ (xs : List (List ℕ)). min (length xs * length c.as_slice.result.now) most) c.as_slice-users.ensures
    ∙ ap (λ (xs : List (List ℕ)). min (users * length xs) most) c.as_slice.ensures in
    let with_targets : c.times-targets.result ≡ min (users * hosts * targets) most =
    c.times-targets.ensures
    ∙ ap (λ (xs : List (List ℕ)). min (c.times-hosts.result * length xs) most) c.as_slice-2.ensures
    ∙ ap (λ (n : ℕ). min (n * targets) most) with_hosts
    ∙ saturated (users * hosts) targets most in
    let with_runs : c.times-runs.result ≡ min (users * hosts * targets * runs) most =
    c.times-runs.ensures
    ∙ ap (λ (xs : List Run). min (c.times-targets.result * length xs) most) c.as_slice-3.ensures
    ∙ ap (λ (n : ℕ). min (n * runs) most) with_targets
    ∙ saturated (users * hosts * targets) runs most in
    c.times.ensures
    ∙ ap (λ (xs : List ℕ). min (c.times-runs.result * length xs) most) c.as_slice-4.ensures
    ∙ ap (λ (n : ℕ). min (n * moments) most) with_runs
    ∙ saturated (users * hosts * targets * runs) moments most
