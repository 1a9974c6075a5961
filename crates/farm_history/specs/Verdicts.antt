-- What a history says of one entry more, and which histories are legal.
use Rattle.std.specs.Prelude.{◌≡◌, ℕ, ◌<◌, Bool, true, false, IsFalse, List, ◌∷◌, ◌++◌, Option, Some, None, ◌≤ℤ◌}
use Rattle.std.specs.List.{list_any}
use Rattle.farm_history.specs.declared.entry.Entry.{Entry}
use Rattle.farm_history.specs.declared.rule.Rule.{Rule}
use Rattle.farm_history.specs.declared.verdict.Verdict.{Verdict}
use Rattle.farm_history.specs.declared.verdict.Verdict.TheVariants.{Repeat, Refused, Accept}
use Rattle.farm_history.specs.Breaking.{Breaks}
use Rattle.farm_history.specs.History.{History, IsWellFormed, last_moment}
use Rattle.farm_history.specs.Places.{IsFirstPlace, first_place}
use Rattle.farm_history.specs.RuleTable.{rule_number}
use Rattle.farm_history.specs.Rules.{broken_rule, is_repeat}

-- refused by the first broken rule, or accepted
abbrev pub refused_or_accepted : Option Rule → Verdict
refused_or_accepted None = Accept
refused_or_accepted (Some rule) = Refused rule

-- a repeat of the entry at a place, or what the rules say
abbrev pub repeated_or : Option ℕ → Verdict → Verdict
repeated_or None verdict = verdict
repeated_or (Some place) verdict = Repeat place

-- the verdict on an entry after a history that may have this many entries
unfoldable pub verdict : ℕ → History → Entry → Verdict
verdict limit history entry =
    repeated_or (first_place (is_repeat entry) history.entries) (refused_or_accepted (broken_rule limit history entry))

-- a verdict is acceptance
abbrev pub is_accepted : Verdict → Bool
is_accepted Accept = true
is_accepted verdict = false

-- no entry of the history has the account, the key and the command
abbrev pub IsNew : History → Entry → Type 0
IsNew history entry = IsFalse (list_any (is_repeat entry) history.entries)

-- a rule is the first of the table that an entry breaks
pub record IsFirstBroken (limit : ℕ) (history : History) (entry : Entry) (rule : Rule) : Type 0 where
  pub broken : Breaks limit history entry rule
  pub before : (earlier : Rule) → rule_number earlier < rule_number rule → ¬ (Breaks limit history entry earlier)

-- The verdict in the words of the rule: a repeat of the first place at which the same command stands under the same account and key. Where
-- it stands nowhere, the first rule that is broken, or acceptance where no rule is broken.
abbrev pub IsVerdict : ℕ → History → Entry → Verdict → Type 0
IsVerdict limit history entry (Repeat place) = IsFirstPlace (is_repeat entry) history.entries place
IsVerdict limit history entry (Refused rule) = IsNew history entry × IsFirstBroken limit history entry rule
IsVerdict limit history entry Accept = IsNew history entry × ((rule : Rule) → ¬ (Breaks limit history entry rule))

-- an entry may come next after a history: it is accepted and well formed, and its moment isn't below the last one
pub record IsNext (limit : ℕ) (history : History) (entry : Entry) : Type 0 where
  pub accepted : verdict limit history entry ≡ Accept
  pub well_formed : IsWellFormed entry
  pub moment : last_moment history ≤ℤ entry.at

-- a history is legal: each entry could come next after those before it
abbrev pub IsLegal : ℕ → History → Type 0
IsLegal limit history = (front back : List Entry) (entry : Entry) → history.entries ≡ front ++ entry ∷ back →
    IsNext limit (record { site = history.site; entries = front }) entry
