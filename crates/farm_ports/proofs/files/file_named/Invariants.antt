-- The invariants of the loops of `file_named`.
use Rattle.std.proofs.Common.{◌≡◌, drop}
use Rattle.farm_ports.specs.Folders.{file_named, files_of}
use Rattle.farm_ports.proofs.files.file_named.Given as goal

abbrev pub invariant-loop-own : goal.invariant-loop-own
invariant-loop-own l = file_named l.name (files_of (drop l.own-index l.files)) ≡ file_named l.name (files_of l.files)
