-- The options of the command `serve`.
use Rattle.std.specs.Prelude.{ℕ, ◌+◌, if◌then◌else◌, leb, List, Option, Some, None, codes}
use Rattle.farm_base.specs.Options.{◌>>=◌}
use Rattle.command_line.specs.declared.serve.ServeOptions.{ServeOptions}
use Rattle.command_line.specs.Limits.{most_port, least_port, least_workers, most_rounds, most_workers}
use Rattle.command_line.specs.Numbers.{number_between}

-- these options, if each of their posts has a port: post k listens on port + k - 1
abbrev pub with_ports : ServeOptions → Option ServeOptions
with_ports options = if leb (options.port + options.workers) (most_port + 1) then Some options else None

-- the numbers that options of these values have
unfoldable pub serve_options : (List ℕ → List ℕ) → Option ServeOptions
serve_options value = do
  port ← number_between least_port most_port (value (codes "port"))
  workers ← number_between least_workers most_workers (value (codes "workers"))
  rounds ← number_between 0 most_rounds (value (codes "rounds"))
  with_ports (record { port = port; workers = workers; rounds = rounds })
