-- What is answered, and which history is left.
use Rattle.std.specs.Prelude.{◌≡◌, ◌⊎◌, ℕ, Bool, true, false, Result, Ok, Err}
use Rattle.farm_history.specs.Desk.{Answered}
use Rattle.farm_history.specs.History.{History}
use Rattle.farm_history.specs.declared.reply.Reply.{Reply}
use Rattle.journaled_book.specs.declared.answer.Answer.{Answer}
use Rattle.journaled_book.specs.declared.answer.NoReply.{NoReply}
use Rattle.journaled_book.specs.declared.answer.NoReply.TheVariants as unanswered
use Rattle.journaled_book.specs.declared.answer.Answer.TheVariants.{Done, DiskFault, NoMemory}

-- An answer is the sequential desk's, with the history that it leaves, and nothing is in doubt; or a fault of the disk, and the history
-- is as it was, or the sequential desk's with the new entry in doubt; or there was no memory, and the history is as it was.
abbrev pub IsAnswered : History → History → Bool → Answered → Answer → Type 0
IsAnswered old new doubt answered (Done reply) = (reply ≡ answered.reply) × (new ≡ answered.history) × (doubt ≡ false)
IsAnswered old new doubt answered DiskFault = (new ≡ old) ⊎ ((new ≡ answered.history) × (doubt ≡ true))
IsAnswered old new doubt answered NoMemory = new ≡ old

-- the answer of a reply, or of the reason why there is no reply
abbrev pub answer_of : Result Reply NoReply → Answer
answer_of (Ok reply) = Done reply
answer_of (Err unanswered.DiskFault) = DiskFault
answer_of (Err unanswered.NoMemory) = NoMemory

-- how many faults an answer is
abbrev pub faults_of : Answer → ℕ
faults_of (Done reply) = 0
faults_of DiskFault = 1
faults_of NoMemory = 0
