-- The form `volumes`: what is expected on each line.
use Rattle.std.proofs.Common.{◌≡◌, ℕ, ◌+◌, ◌<◌, true, Option, Some, None, List, drop, refl, arith}
use Rattle.std.specs.Option.{IsSome}
use Rattle.farm_base.specs.Steps.{◌>>=◌, or_fault}
use Rattle.calc_input.specs.declared.volumes_line.Volumes.{Volumes}
use Rattle.calc_input.specs.Lines.{is_blank_line, line_at, words_of}
use Rattle.calc_input.specs.VolumesLine.{volumes_of}
use Rattle.calc_input.specs.Forms.{ended, first_used, unless_used, volumes_input_of}
use Rattle.calc_input.specs.RefusedLine.{IsDueInVolumes, line_numbered}
use Rattle.calc_input.proofs.DueBlanks.{blank_after_form, used_after_form}
use Rattle.calc_input.proofs.Judging.{Judges, none_there, not_blank, some_there}

-- a line is expected: the first has the volumes, and one after it is blank
volumes_due : (lines : List (List ℕ)) (number : ℕ) → IsSome (volumes_of (words_of (line_at lines 0))) →
    (1 < number → is_blank_line (line_numbered lines number) ≡ true) → IsDueInVolumes lines number
volumes_due lines number some blank = record { volumes = λ first. some; blank = blank }

-- if the first line has the volumes, what follows it is judged by what is expected there
volumes_ended : (lines : List (List ℕ)) (volumes : Volumes) → volumes_of (words_of (line_at lines 0)) ≡ Some volumes → Judges (IsDueInVolumes lines) (ended 1 lines volumes)
volumes_ended lines volumes is = by (first_used (1 + 1) (drop 1 lines)) refl
  where
    some : IsSome (volumes_of (words_of (line_at lines 0)))
    some = some_there (volumes_of (words_of (line_at lines 0))) volumes is

    by : (found : Option ℕ) → first_used (1 + 1) (drop 1 lines) ≡ found → Judges (IsDueInVolumes lines) (unless_used found volumes)
    by None none = λ number from_one. volumes_due lines number some (λ late. blank_after_form lines 1 none number late)
    by (Some number) found =
        let used = used_after_form lines 1 number found in
        record {
          from_one = omega (arith, used.late);
          before = λ earlier from_one less. volumes_due lines earlier some (λ late. used.before earlier late less);
          here = λ due. not_blank (line_numbered lines number) used.here (due.blank used.late);
        }

-- the form of a line of volumes is what the lines are judged as
pub volumes_judged : (lines : List (List ℕ)) → Judges (IsDueInVolumes lines) (volumes_input_of lines)
unfolding volumes_input_of
volumes_judged lines = by (volumes_of (words_of (line_at lines 0))) refl
  where
    by : (o : Option Volumes) → volumes_of (words_of (line_at lines 0)) ≡ o →
        Judges (IsDueInVolumes lines) (or_fault {E = ℕ} 1 o >>= λ volumes. ended 1 lines volumes)
    by None is = record {
      from_one = omega arith;
      before = λ earlier from_one less. absurd (omega arith);
      here = λ due. none_there Volumes (rw is at (due.volumes refl));
    }
    by (Some volumes) is = volumes_ended lines volumes is
