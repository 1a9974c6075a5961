-- What bytes ask for, and the value that they are.
use Rattle.std.proofs.Common.{◌≡◌, ℕ, Bool, true, false, List, Option, Some, None, IfSome, option_and_then, ap, refl, subst}
use Rattle.std.specs.Str.{IsUtf8, is_utf8}
use Rattle.std.proofs.lemmas.Str.{IsUtf8-from_is_utf8, is_utf8-from_IsUtf8}
use Rattle.serde_json.specs.Data.{Data}
use Rattle.serde_json.specs.Read.{read}
use Rattle.farm_history.specs.Desk.{IsWellFormedAsk}
use Rattle.farm_history.specs.declared.ask.Ask.{Ask}
use Rattle.farm_http.specs.Members.{value_of}
use Rattle.farm_http.specs.Requests.{IsLineRead, IsPostedRead, ask_of_line, ask_of_posted, ask_of_value, asked_of, do_of}
use Rattle.farm_http.specs.declared.requests.LineAsked.TheVariants as lines

-- what bytes are read as
pub value_is : (bytes : List ℕ) (value : Data) → IsUtf8 bytes → read bytes ≡ Some value → value_of bytes ≡ Some value
unfolding value_of
value_is bytes value text is = rw (is_utf8-from_IsUtf8 bytes text) is

-- bytes that are no text, or a text that is no value
no_value : (bytes : List ℕ) (text : Bool) → is_utf8 bytes ≡ text → (IsUtf8 bytes → read bytes ≡ None) → value_of bytes ≡ None
unfolding value_of
no_value bytes false is none = rw is refl
no_value bytes true is none = rw is (none (IsUtf8-from_is_utf8 bytes is))

-- are no value
pub value_is_none : (bytes : List ℕ) → (IsUtf8 bytes → read bytes ≡ None) → value_of bytes ≡ None
value_is_none bytes none = no_value bytes (is_utf8 bytes) refl none

-- a line asks for what its value asks for
pub line_asks : (bytes : List ℕ) (value : Option Data) → value_of bytes ≡ value → ask_of_line bytes ≡ option_and_then ask_of_value value
unfolding ask_of_line
line_asks bytes value is = ap (λ (r : Option Data). option_and_then ask_of_value r) is

-- and a body what its value asks for under the word
pub posted_asks : (word bytes : List ℕ) (value : Option Data) → value_of bytes ≡ value → ask_of_posted word bytes ≡ option_and_then (do_of word) value
unfolding ask_of_posted
posted_asks word bytes value is = ap (λ (r : Option Data). option_and_then (do_of word) r) is

-- what a line asks for is answered to it
pub line_read : (bytes : List ℕ) (asked : Option Ask) → ask_of_line bytes ≡ asked → IsLineRead bytes (asked_of asked)
line_read bytes (Some ask) is = is
line_read bytes None is = is

-- and what a body asks for to the body
pub posted_read : (word bytes : List ℕ) (asked : Option Ask) → ask_of_posted word bytes ≡ asked → IsPostedRead word bytes (asked_of asked)
posted_read word bytes (Some ask) is = is
posted_read word bytes None is = is

-- what is answered is well formed where what is asked for is
pub well_formed_asked : (asked : Option Ask) → IfSome asked IsWellFormedAsk → (ask : Ask) → asked_of asked ≡ lines.Ask ask → IsWellFormedAsk ask
well_formed_asked (Some known) good ask is = let same : known ≡ ask = cc is in subst IsWellFormedAsk same good
well_formed_asked None good ask is = absurd (cc is)
