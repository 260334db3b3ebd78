-- When grants are in force, by host.
use Rattle.std.specs.Prelude.{ℕ, List, [], map, filter, Option, Some, None}
use Rattle.std.specs.List.{flat_map}
use Rattle.std.specs.List.Sorted.{IsPermutation, IsSorted}
use Rattle.std.specs.Cmp.Lexicographic.{slice_cmp}
use Rattle.std.specs.Ordering.{nat_cmp, ordering_then}
use Rattle.std.specs.declared.cmp.Ordering.{Ordering}
use Rattle.messages.specs.Fields.{RequestFields}
use Rattle.grants.specs.declared.outcome.Status.{Status}
use Rattle.grants.specs.declared.outcome.Status.TheVariants.{Disputed, Lapsed, Refused}
use Rattle.grants.specs.declared.outcome.Status.TheVariants.{Waiting, Void, Granted}
use Rattle.grants.specs.declared.outcome.Window.{Window}
use Rattle.findings.specs.Picks.{has_host}
use Rattle.findings.specs.declared.by_host.HostWindow.{HostWindow}
use Rattle.findings.specs.declared.entry.AuditEntry.{AuditEntry}
use Rattle.findings.specs.declared.pick.Pick.{Pick}

-- the window of a grant on a host
abbrev pub window_on : RequestFields → Window → (host : List ℕ) → HostWindow
window_on q w host = record { host = host; start = w.start; end = w.end; by = q.by; no = q.no }

-- the windows of a grant on those of the hosts that are asked about
abbrev pub windows_on : Pick → RequestFields → Window → (hosts : List (List ℕ)) → List HostWindow
windows_on pick q w hosts = map (window_on q w) (filter (has_host pick) hosts)

-- a grant's windows
abbrev pub windows_by : Pick → List RequestFields → Option Status → List HostWindow
windows_by pick requests None = []
windows_by pick requests (Some Disputed) = []
windows_by pick requests (Some Lapsed) = []
windows_by pick requests (Some Refused) = []
windows_by pick requests (Some Waiting) = []
windows_by pick requests (Some Void) = []
windows_by pick requests (Some (Granted w)) = flat_map (λ q. windows_on pick q w q.hosts) requests

abbrev pub windows_of : Pick → AuditEntry → List HostWindow
windows_of pick e = windows_by pick e.about.requests.items e.status

-- by host in byte order, then by moment and name
abbrev pub window_cmp : HostWindow → HostWindow → Ordering
window_cmp a b =
    ordering_then (slice_cmp nat_cmp a.host b.host)
    (ordering_then (nat_cmp a.start b.start)
    (ordering_then (nat_cmp a.end b.end)
    (ordering_then (slice_cmp nat_cmp a.by b.by) (nat_cmp a.no b.no))))

-- the windows of the entries, on the hosts that are asked about, in their order
pub record AreWindows (pick : Pick)
    (entries : List AuditEntry) (windows : List HostWindow) : Type 0 where
  pub each : IsPermutation (flat_map (windows_of pick) entries) windows
  pub in_order : IsSorted window_cmp windows
