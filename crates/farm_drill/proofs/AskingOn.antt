-- Commands asked one after another, in parts.
use Rattle.std.proofs.Common.{◌≡◌, ◌∙◌, ℕ, suc, ◌+◌, List, [], ◌∷◌, ◌++◌, length, All, pos, ap, ap₂, refl, sym, arith}
use Rattle.std.proofs.lemmas.List.Elements.{All-cons, All-nil}
use Rattle.farm_history.specs.Commands.{IsWellFormedCommand}
use Rattle.farm_history.specs.History.{History}
use Rattle.farm_history.specs.declared.command.Command.{Command}
use Rattle.farm_drill.specs.declared.course.Course.{Course}
use Rattle.farm_drill.specs.declared.course.Mark.{Mark}
use Rattle.farm_drill.specs.Commands.{begins_at, closing_of, drill_commands, first_commands, first_course, level_at, mark_of, movements_from, next_commands, next_course, next_number, opening_of, reading_of, sample_of, tank_index}
use Rattle.farm_drill.specs.Drills.{after_command, after_commands}
use Rattle.farm_drill.specs.Numbers.{first_tank}

-- commands and then others are asked as they are in one list
pub after_more : (limit : ℕ) (history : History) (place : ℕ) (xs ys : List Command) →
    after_commands limit history place (xs ++ ys) ≡ after_commands limit (after_commands limit history place xs) (place + length xs) ys
unfolding after_commands
after_more limit history place [] ys = ap (λ at. after_commands limit history at ys) (omega arith)
after_more limit history place (x ∷ xs) ys =
    after_more limit (after_command limit history place x) (place + 1) xs ys
    ∙ ap (λ at. after_commands limit (after_commands limit (after_command limit history place x) (place + 1) xs) at ys) (omega arith)

-- a sample and a reading are well formed
begun_well_formed : (tank : ℕ) (commands : List Command) → All IsWellFormedCommand commands → All IsWellFormedCommand (begins_at tank ++ commands)
begun_well_formed tank commands rest =
    All-cons IsWellFormedCommand (sample_of tank) (reading_of tank (pos 5000) ∷ commands) tt
    (All-cons IsWellFormedCommand (reading_of tank (pos 5000)) commands tt rest)

-- the first commands are well formed
pub first_well_formed : All IsWellFormedCommand first_commands
unfolding first_commands
first_well_formed =
    begun_well_formed 101 (begins_at 102 ++ begins_at 103 ++ begins_at 104) (begun_well_formed 102 (begins_at 103 ++ begins_at 104)
    (begun_well_formed 103 (begins_at 104) (begun_well_formed 104 [] (All-nil IsWellFormedCommand))))

-- the commands of a movement are well formed
pub next_well_formed : (course : Course) → All IsWellFormedCommand (next_commands course)
unfolding next_commands
next_well_formed course =
    let number : ℕ = next_number course.number in
    let tank : ℕ = first_tank + tank_index number in
    let mark : Mark = mark_of course (tank_index number) in
    let opening : Command = opening_of tank mark (level_at number) in
    let reading : Command = reading_of tank (level_at number) in
    let closing : Command = closing_of (course.asked + 1) mark in
    All-cons IsWellFormedCommand opening (reading ∷ closing ∷ []) tt
    (All-cons IsWellFormedCommand reading (closing ∷ []) tt
    (All-cons IsWellFormedCommand closing [] tt (All-nil IsWellFormedCommand)))

-- a movement has three commands
pub length-next_commands : (course : Course) → length (next_commands course) ≡ 3
unfolding next_commands
length-next_commands course = refl

-- the place of the command after those of a movement
place_after : (course : Course) → (next_course course).asked + 1 ≡ course.asked + 1 + length (next_commands course)
unfolding next_course
place_after course = omega (arith, length-next_commands course)

-- the commands of a movement, and then those of the ones after it, are those of one movement more
pub moved_on : (limit : ℕ) (history after : History) (course next : Course) (left : ℕ) → next ≡ next_course course →
    after ≡ after_commands limit history (course.asked + 1) (next_commands course) →
    after_commands limit after (next.asked + 1) (movements_from left next) ≡
    after_commands limit history (course.asked + 1) (movements_from (suc left) course)
unfolding movements_from
moved_on limit history after course next left next_is after_is =
    ap₂ (λ from on. after_commands limit from (on.asked + 1) (movements_from left on)) after_is next_is
    ∙ ap (λ at. after_commands limit (after_commands limit history (course.asked + 1) (next_commands course)) at (movements_from left (next_course course)))
    (place_after course)
    ∙ sym (after_more limit history (course.asked + 1) (next_commands course) (movements_from left (next_course course)))

-- no movement is left
pub none_left : (limit : ℕ) (history : History) (course : Course) (left : ℕ) → left ≡ 0 →
    history ≡ after_commands limit history (course.asked + 1) (movements_from left course)
unfolding movements_from after_commands
none_left limit history course left is = sym (ap (λ more. after_commands limit history (course.asked + 1) (movements_from more course)) is)

-- how many a movement adds to those asked
pub asked_next : (course next : Course) → next ≡ next_course course → next.asked ≡ course.asked + 3
unfolding next_course
asked_next course next is = ap (λ on. on.asked) is

-- the first commands, and then those of the movements, are all commands of a drill
pub drilled_on : (limit : ℕ) (history between after : History) (course : Course) (seed count : ℕ) → course ≡ first_course seed →
    between ≡ after_commands limit history 1 first_commands →
    after ≡ after_commands limit between (course.asked + 1) (movements_from count course) →
    after ≡ after_commands limit history 1 (drill_commands seed count)
unfolding drill_commands first_course first_commands
drilled_on limit history between after course seed count course_is between_is after_is =
    after_is
    ∙ ap₂ (λ from on. after_commands limit from (on.asked + 1) (movements_from count on)) between_is course_is
    ∙ sym (after_more limit history 1 first_commands (movements_from count (first_course seed)))
