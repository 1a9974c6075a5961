-- The marks of a drill name the last reading and the last sample of each tank.
use Rattle.std.proofs.Common.{◌≡◌, ◌≢◌, ◌∙◌, ◌⊎◌, inl, inr, ℕ, zero, suc, ◌+◌, ◌/◌, ◌^◌, ◌<◌, Bool, true, false, All, List, [], ◌∷◌, ◌++◌, length, length-append, length-set, append_assoc, append-nil, mod-lt, nat_eq, pos, slice_index_or, get_or-set_same, get_or-set_other, ap, refl, sym, subst, arith}
use Rattle.std.proofs.lemmas.Bool.Decides.{eqb_tells, nat_tests}
use Rattle.std.proofs.lemmas.List.Elements.{All-append, All-cons, All-nil}
use Rattle.farm_history.specs.Commands.{is_gauging_of, is_sample_of}
use Rattle.farm_history.specs.declared.command.Command.{Command}
use Rattle.farm_drill.specs.declared.course.Course.{Course}
use Rattle.farm_drill.specs.declared.course.Mark.{Mark}
use Rattle.farm_drill.specs.Commands.{after_movement, begins_at, closing_of, commands_of, drill_commands, first_commands, first_course, first_marks, level_at, mark_after, mark_of, moved, movements_from, next_commands, next_course, next_number, opening_of, reading_of, sample_of, tank_index}
use Rattle.farm_drill.specs.Laws.{Begins, GoesOn, IsLastSuch, IsMarked, IsMovement, number_of}
use Rattle.farm_drill.specs.Numbers.{first_tank}

-- a drill of a seed after its first movements, this many
abbrev course_after : ℕ → Course → Course
course_after zero course = course
course_after (suc count) course = next_course (course_after count course)

-- the next movement first, or last
after_next : (count : ℕ) (course : Course) → course_after count (next_course course) ≡ next_course (course_after count course)
after_next zero course = refl
after_next (suc count) course = ap next_course (after_next count course)

-- Commands and how far a drill has come with them: it has asked them, and has the mark of each tank.
record Stands (so_far : List Command) (course : Course) : Type 0 where
  asked : course.asked ≡ length so_far
  long : length course.marks ≡ 4
  marked : (index : ℕ) → index < 4 → IsMarked (first_tank + index) (mark_of course index) so_far

-- the last such command stays the last one, if no later one is such a command
kept_last : (is_such : Command → Bool) (place : ℕ) (command : Command) (commands more : List Command) →
    All (λ other. is_such other ≡ false) more → IsLastSuch is_such place command commands → IsLastSuch is_such place command (commands ++ more)
kept_last is_such place command commands more none was = record {
  before = was.before;
  later = was.later ++ more;
  split = ap (λ list. list ++ more) was.split ∙ append_assoc was.before (command ∷ was.later) more;
  place_is = was.place_is;
  such = was.such;
  last = All-append (λ other. is_such other ≡ false) was.later more was.last none;
}

-- a number is itself
same_number : (n : ℕ) → nat_eq n n ≡ true
same_number n = grind (arith, nat_tests)

-- a movement has no sample
no_sample : (tank place moved_tank : ℕ) (mark : Mark) (number : ℕ) →
    All (λ other. is_sample_of tank other ≡ false) (moved place moved_tank mark (level_at number))
no_sample tank place moved_tank mark number =
    let opening : Command = opening_of moved_tank mark (level_at number) in
    let reading : Command = reading_of moved_tank (level_at number) in
    let closing : Command = closing_of place mark in
    let P : Command → Type 0 = λ other. is_sample_of tank other ≡ false in
    All-cons P opening (reading ∷ closing ∷ []) refl (All-cons P reading (closing ∷ []) refl (All-cons P closing [] refl (All-nil P)))

-- a movement of another tank has no reading of a tank
no_reading : (tank place moved_tank : ℕ) (mark : Mark) (number : ℕ) → nat_eq moved_tank tank ≡ false →
    All (λ other. is_gauging_of tank other ≡ false) (moved place moved_tank mark (level_at number))
no_reading tank place moved_tank mark number other_tank =
    let opening : Command = opening_of moved_tank mark (level_at number) in
    let reading : Command = reading_of moved_tank (level_at number) in
    let closing : Command = closing_of place mark in
    let P : Command → Type 0 = λ other. is_gauging_of tank other ≡ false in
    All-cons P opening (reading ∷ closing ∷ []) refl (All-cons P reading (closing ∷ []) other_tank (All-cons P closing [] refl (All-nil P)))

-- the reading of a movement is its tank's last one
new_last : (tank place : ℕ) (mark : Mark) (number : ℕ) (so_far : List Command) → place ≡ length so_far + 1 →
    IsLastSuch (is_gauging_of tank) (place + 1) (reading_of tank (level_at number)) (so_far ++ moved place tank mark (level_at number))
new_last tank place mark number so_far place_is = record {
  before = so_far ++ opening_of tank mark (level_at number) ∷ [];
  later = closing_of place mark ∷ [];
  split = sym (append_assoc so_far (opening_of tank mark (level_at number) ∷ []) (reading_of tank (level_at number) ∷ closing_of place mark ∷ []));
  place_is = omega (arith, place_is, length-append so_far (opening_of tank mark (level_at number) ∷ []));
  such = same_number tank;
  last = All-cons (λ other. is_gauging_of tank other ≡ false) (closing_of place mark) [] refl (All-nil (λ other. is_gauging_of tank other ≡ false));
}

-- tanks of other places in the list have other numbers
other_tanks : (first second : ℕ) → first ≢ second → nat_eq (first_tank + second) (first_tank + first) ≡ false
other_tanks first second other = by (eqb_tells (first_tank + second) (first_tank + first))
  where
    by : ((nat_eq (first_tank + second) (first_tank + first) ≡ true) × (first_tank + second ≡ first_tank + first))
        ⊎ ((nat_eq (first_tank + second) (first_tank + first) ≡ false) × (first_tank + second ≢ first_tank + first))
        → nat_eq (first_tank + second) (first_tank + first) ≡ false
    by (inl same) = absurd (other (omega (arith, same.1)))
    by (inr apart) = apart.0

-- the mark of a movement's tank after it
marked_same : (number : ℕ) (so_far : List Command) (course : Course) → Stands so_far course → tank_index number < 4 →
    IsMarked (first_tank + tank_index number) (mark_of (after_movement course number) (tank_index number)) (so_far ++ commands_of course number)
marked_same number so_far course stands few =
    let index : ℕ = tank_index number in
    let mark : Mark = mark_of course index in
    let more : List Command = commands_of course number in
    let long : index < length course.marks = omega (arith, few, stands.long) in
    subst (λ now. IsMarked (first_tank + index) now (so_far ++ more))
    (sym (get_or-set_same course.marks index (mark_after (course.asked + 1) mark (level_at number)) (record { reading = 0; sample = 0; level = pos 0 }) long))
    (record {
      reading = new_last (first_tank + index) (course.asked + 1) mark number so_far (omega (arith, stands.asked));
      sample =
          kept_last (is_sample_of (first_tank + index)) mark.sample (sample_of (first_tank + index)) so_far more
          (no_sample (first_tank + index) (course.asked + 1) (first_tank + index) mark number) (stands.marked index few).sample;
    })

-- the mark of another tank after a movement
marked_other : (index number : ℕ) (so_far : List Command) (course : Course) → Stands so_far course → index < 4 → index ≢ tank_index number →
    IsMarked (first_tank + index) (mark_of (after_movement course number) index) (so_far ++ commands_of course number)
marked_other index number so_far course stands few other =
    let tank : ℕ = first_tank + tank_index number in
    let moved_mark : Mark = mark_of course (tank_index number) in
    let mark : Mark = mark_of course index in
    let more : List Command = commands_of course number in
    subst (λ now. IsMarked (first_tank + index) now (so_far ++ more))
    (sym (get_or-set_other course.marks (tank_index number) index (mark_after (course.asked + 1) moved_mark (level_at number))
    (record { reading = 0; sample = 0; level = pos 0 }) other))
    (record {
      reading =
          kept_last (is_gauging_of (first_tank + index)) mark.reading (reading_of (first_tank + index) mark.level) so_far more
          (no_reading (first_tank + index) (course.asked + 1) tank moved_mark number (other_tanks index (tank_index number) other))
          (stands.marked index few).reading;
      sample =
          kept_last (is_sample_of (first_tank + index)) mark.sample (sample_of (first_tank + index)) so_far more
          (no_sample (first_tank + index) (course.asked + 1) tank moved_mark number) (stands.marked index few).sample;
    })

-- a movement is of one of four tanks
moved_few : (number : ℕ) → tank_index number < 4
moved_few number = mod-lt (number / 2 ^ 33) (omega arith)

-- the mark of a tank after a movement
marked_on : (number index : ℕ) (so_far : List Command) (course : Course) → Stands so_far course → index < 4 →
    IsMarked (first_tank + index) (mark_of (after_movement course number) index) (so_far ++ commands_of course number)
marked_on number index so_far course stands few = by (eqb_tells index (tank_index number))
  where
    by : ((nat_eq index (tank_index number) ≡ true) × (index ≡ tank_index number))
        ⊎ ((nat_eq index (tank_index number) ≡ false) × (index ≢ tank_index number))
        → IsMarked (first_tank + index) (mark_of (after_movement course number) index) (so_far ++ commands_of course number)
    by (inl same) =
        subst (λ at. IsMarked (first_tank + at) (mark_of (after_movement course number) at) (so_far ++ commands_of course number)) (sym same.1)
        (marked_same number so_far course stands (moved_few number))
    by (inr other) = marked_other index number so_far course stands few other.1

-- a drill stands on its commands after one movement more
stands_on : (so_far : List Command) (course : Course) → Stands so_far course → Stands (so_far ++ next_commands course) (next_course course)
unfolding next_commands next_course
stands_on so_far course stands =
    let number : ℕ = next_number course.number in
    let more : List Command = commands_of course number in
    record {
      asked = omega (arith, stands.asked, length-append so_far more);
      long = length-set course.marks (tank_index number) (mark_after (course.asked + 1) (mark_of course (tank_index number)) (level_at number)) ∙ stands.long;
      marked = λ index few. marked_on number index so_far course stands few;
    }

-- a tank that is sampled and gauged first is marked by that, among commands before and after
begun_at : (tank : ℕ) (before later : List Command) → All (λ other. is_gauging_of tank other ≡ false) later →
    All (λ other. is_sample_of tank other ≡ false) later →
    IsMarked tank (record { reading = length before + 2; sample = length before + 1; level = pos 5000 }) (before ++ (begins_at tank ++ later))
begun_at tank before later no_more_readings no_more_samples = record {
  reading = record {
    before = before ++ sample_of tank ∷ [];
    later = later;
    split = sym (append_assoc before (sample_of tank ∷ []) (reading_of tank (pos 5000) ∷ later));
    place_is = omega (arith, length-append before (sample_of tank ∷ []));
    such = same_number tank;
    last = no_more_readings;
  };
  sample = record {
    before = before;
    later = reading_of tank (pos 5000) ∷ later;
    split = refl;
    place_is = refl;
    such = same_number tank;
    last = All-cons (λ other. is_sample_of tank other ≡ false) (reading_of tank (pos 5000)) later refl no_more_samples;
  };
}

-- the beginning of another tank has neither a reading nor a sample of a tank
none_begun : (tank other : ℕ) (later : List Command) → nat_eq other tank ≡ false →
    All (λ command. is_gauging_of tank command ≡ false) later → All (λ command. is_gauging_of tank command ≡ false) (begins_at other ++ later)
none_begun tank other later apart rest =
    let P : Command → Type 0 = λ command. is_gauging_of tank command ≡ false in
    All-cons P (sample_of other) (reading_of other (pos 5000) ∷ later) refl (All-cons P (reading_of other (pos 5000)) later apart rest)

-- the same of samples
none_sampled : (tank other : ℕ) (later : List Command) → nat_eq other tank ≡ false →
    All (λ command. is_sample_of tank command ≡ false) later → All (λ command. is_sample_of tank command ≡ false) (begins_at other ++ later)
none_sampled tank other later apart rest =
    let P : Command → Type 0 = λ command. is_sample_of tank command ≡ false in
    All-cons P (sample_of other) (reading_of other (pos 5000) ∷ later) apart (All-cons P (reading_of other (pos 5000)) later refl rest)

-- the first commands mark each tank
first_marked : (index : ℕ) → index < 4 → IsMarked (first_tank + index) (slice_index_or first_marks index (record { reading = 0; sample = 0; level = pos 0 })) first_commands
unfolding first_commands first_marks
first_marked zero few =
    begun_at 101 [] (begins_at 102 ++ (begins_at 103 ++ (begins_at 104 ++ [])))
    (none_begun 101 102 (begins_at 103 ++ (begins_at 104 ++ [])) refl (none_begun 101 103 (begins_at 104 ++ []) refl
    (none_begun 101 104 [] refl (All-nil (λ command. is_gauging_of 101 command ≡ false)))))
    (none_sampled 101 102 (begins_at 103 ++ (begins_at 104 ++ [])) refl (none_sampled 101 103 (begins_at 104 ++ []) refl
    (none_sampled 101 104 [] refl (All-nil (λ command. is_sample_of 101 command ≡ false)))))
first_marked (suc zero) few =
    begun_at 102 (begins_at 101) (begins_at 103 ++ (begins_at 104 ++ []))
    (none_begun 102 103 (begins_at 104 ++ []) refl (none_begun 102 104 [] refl (All-nil (λ command. is_gauging_of 102 command ≡ false))))
    (none_sampled 102 103 (begins_at 104 ++ []) refl (none_sampled 102 104 [] refl (All-nil (λ command. is_sample_of 102 command ≡ false))))
first_marked (suc (suc zero)) few =
    begun_at 103 (begins_at 101 ++ begins_at 102) (begins_at 104 ++ [])
    (none_begun 103 104 [] refl (All-nil (λ command. is_gauging_of 103 command ≡ false)))
    (none_sampled 103 104 [] refl (All-nil (λ command. is_sample_of 103 command ≡ false)))
first_marked (suc (suc (suc zero))) few =
    begun_at 104 (begins_at 101 ++ begins_at 102 ++ begins_at 103) [] (All-nil (λ command. is_gauging_of 104 command ≡ false))
    (All-nil (λ command. is_sample_of 104 command ≡ false))
first_marked (suc (suc (suc (suc index)))) few = absurd (omega (arith, few))

-- a drill stands on its first commands
first_stands : (seed : ℕ) → Stands first_commands (first_course seed)
unfolding first_commands first_course first_marks
first_stands seed = record {
  asked = refl;
  long = refl;
  marked = first_marked;
}

-- the movements of one more are those before, and then the next one
one_more : (count : ℕ) (course : Course) →
    movements_from (suc count) course ≡ movements_from count course ++ next_commands (course_after count course)
unfolding movements_from
one_more zero course = append-nil (next_commands course)
one_more (suc count) course =
    ap (λ list. next_commands course ++ list) (one_more count (next_course course))
    ∙ sym (append_assoc (next_commands course) (movements_from count (next_course course)) (next_commands (course_after count (next_course course))))
    ∙ ap (λ last. (next_commands course ++ movements_from count (next_course course)) ++ next_commands last) (after_next count course)

-- the commands of one movement more
grows : (seed count : ℕ) → drill_commands seed (suc count) ≡ drill_commands seed count ++ next_commands (course_after count (first_course seed))
unfolding drill_commands
grows seed count =
    ap (λ list. first_commands ++ list) (one_more count (first_course seed))
    ∙ sym (append_assoc first_commands (movements_from count (first_course seed)) (next_commands (course_after count (first_course seed))))

-- a drill without a movement has the first commands alone
pub begins : Begins
unfolding drill_commands movements_from
begins = λ seed. append-nil first_commands

-- a drill stands on its commands after each number of movements
stands_after : (seed count : ℕ) → Stands (drill_commands seed count) (course_after count (first_course seed))
stands_after seed zero = subst (λ commands. Stands commands (first_course seed)) (sym (begins seed)) (first_stands seed)
stands_after seed (suc count) =
    subst (λ commands. Stands commands (course_after (suc count) (first_course seed))) (sym (grows seed count))
    (stands_on (drill_commands seed count) (course_after count (first_course seed)) (stands_after seed count))

-- the number of a drill after its first movements
number_after : (seed count : ℕ) → (course_after count (first_course seed)).number ≡ number_of seed count
unfolding first_course next_course
number_after seed zero = refl
number_after seed (suc count) = ap next_number (number_after seed count)

-- the commands of a drill's next movement are the movement of the next number
is_next : (seed count : ℕ) →
    IsMovement (number_of seed (suc count)) (drill_commands seed count) (next_commands (course_after count (first_course seed)))
unfolding next_commands
is_next seed count =
    let course : Course = course_after count (first_course seed) in
    let stands : Stands (drill_commands seed count) course = stands_after seed count in
    let of_number : IsMovement (next_number course.number) (drill_commands seed count) (commands_of course (next_number course.number)) =
    record {
      mark = mark_of course (tank_index (next_number course.number));
      marked = stands.marked (tank_index (next_number course.number)) (moved_few (next_number course.number));
      movement_is =
          ap (λ asked. moved (asked + 1) (first_tank + tank_index (next_number course.number))
          (mark_of course (tank_index (next_number course.number))) (level_at (next_number course.number)))
          stands.asked;
    } in
    subst (λ last. IsMovement (next_number last) (drill_commands seed count) (commands_of course (next_number course.number)))
    (number_after seed count) of_number

-- each drill continues by the movement of its next number
pub goes_on : GoesOn
goes_on = λ seed count. record {
  movement = next_commands (course_after count (first_course seed));
  commands = grows seed count;
  is_movement = is_next seed count;
}
