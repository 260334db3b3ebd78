-- Runs are equal where their parts are.
use Rattle.std.proofs.Common.{◌≡◌, ℕ, List, refl}
use Rattle.clap.specs.Words.{Text}
use Rattle.sudo_decide.specs.declared.invocation.Invocation.{Invocation}

pub same_run : (run : Invocation) (user host runas : Text) (at : ℕ) (path : Text) (args : List Text) → user ≡ run.user → host ≡ run.host → runas ≡ run.runas
    → at ≡ run.at → path ≡ run.path → args ≡ run.args
    → ◌≡◌ {A = Invocation} (record { user = user; host = host; runas = runas; path = path; args = args; at = at }) run
same_run run user host runas at path args u h r a p g = rw (u, h, r, a, p, g) refl
