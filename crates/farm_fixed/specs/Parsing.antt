-- Parsing a quantity from its text, with the first refusal: empty, a bad byte, too many decimals, out of range.
use Rattle.std.specs.Prelude.{◌≡◌, ℕ, ◌<◌, ◌≤◌, if◌then◌else◌, List, [], ◌∷◌, length, Option, Some, None, Result, Ok, Err, ◌==◌, nat_lt, slice_index, drop, ℤ}
use Rattle.std.specs.List.{before_first, after_first}
use Rattle.farm_fixed.specs.declared.fault.ReadFault.{ReadFault}
use Rattle.farm_fixed.specs.declared.fault.ReadFault.TheVariants.{Empty, BadByte, TooFine, OutOfRange}
use Rattle.farm_fixed.specs.Range.{IsWithin, is_within}
use Rattle.farm_fixed.specs.Text.{Number, IsTextOf, IsBadAt, bad_offset, value_of}

-- the text without its minus
abbrev pub unsigned_text : List ℕ → List ℕ
unsigned_text text = if slice_index text 0 == 45 then drop 1 text else text

-- the parts of a number's text
abbrev pub number_of : List ℕ → Number
number_of text = record {
  negative = slice_index text 0 == 45;
  whole = before_first (λ byte. byte == 46) (unsigned_text text);
  fraction = after_first (λ byte. byte == 46) (unsigned_text text);
}

-- a quantity of this many decimals and this range, from the parts of a number's text
unfoldable pub quantity_from : ℕ → ℤ → ℤ → Number → Result ℤ ReadFault
quantity_from places least most number =
    if nat_lt places (length number.fraction) then Err TooFine
    else (if is_within least most (value_of places number) then Ok (value_of places number) else Err OutOfRange)

-- a bad byte is refused before all else
abbrev pub unless_bad : Option ℕ → Result ℤ ReadFault → Result ℤ ReadFault
unless_bad (Some offset) value = Err (BadByte offset)
unless_bad None value = value

-- what a text is read as
unfoldable pub quantity_of : ℕ → ℤ → ℤ → List ℕ → Result ℤ ReadFault
quantity_of places least most [] = Err Empty
quantity_of places least most (byte ∷ bytes) =
    unless_bad (bad_offset (byte ∷ bytes)) (quantity_from places least most (number_of (byte ∷ bytes)))

-- Parsing in the words of the rule: the answer is right for this text.
abbrev pub IsReadAs : ℕ → ℤ → ℤ → List ℕ → Result ℤ ReadFault → Type 0
IsReadAs places least most text (Ok value) =
    (number : Number) × IsTextOf text number × (length number.fraction ≤ places) × (value ≡ value_of places number) × IsWithin least most value
IsReadAs places least most text (Err Empty) = text ≡ []
IsReadAs places least most text (Err (BadByte offset)) = (0 < length text) × IsBadAt text offset
IsReadAs places least most text (Err TooFine) =
    (number : Number) × IsTextOf text number × (places < length number.fraction)
IsReadAs places least most text (Err OutOfRange) =
    (number : Number) × IsTextOf text number × (length number.fraction ≤ places) × ¬ (IsWithin least most (value_of places number))
