use Rattle.std.proofs.Common.{◌≡◌, take}
use Rattle.sudo_beyond.specs.private.Gathering.{listings}
use Rattle.sudo_beyond.proofs.runs.listings.Given as goal

abbrev pub invariant-loop-cmnd : goal.invariant-loop-cmnd
invariant-loop-cmnd l = l.listed.items ≡ listings (take l.cmnd-index l.cmnds)
