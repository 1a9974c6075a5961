-- Answers to the open goals of `toml_of`.
use Rattle.std.proofs.Common.{◌≡◌, Bool, true, false, List, ℕ, None, Ok, ap, sym, refl}
use Rattle.std.specs.Str.{is_utf8, IsUtf8}
use Rattle.std.proofs.lemmas.Str.{IsUtf8-from_is_utf8, is_utf8-from_IsUtf8}
use Rattle.toml.proofs.Views.{view-Table}
use Rattle.toml.specs.Parse.{parse_document}
use Rattle.site_keys.specs.declared.codes.TheConstants.{TEXT}
use Rattle.site_keys.specs.Faults.{bad}
use Rattle.site_keys.specs.Files.{toml_of}
use Rattle.site_keys.specs.Keys.{keys_of}
use Rattle.site_keys.proofs.files.toml_of.Goals as goal

pub returns-in-Ok-clause-table : goal.returns-in-Ok-clause-table
unfolding toml_of
returns-in-Ok-clause-table c =
    let text : is_utf8 c.args.bytes.now ≡ true = is_utf8-from_IsUtf8 c.args.bytes.now c.in-Ok.ensures.ok.0 in
    rw (text, c.in-Ok.ensures.ok.1) (ap (λ table. Ok (keys_of c.args.item table)) (sym (view-Table c.in-Ok.table)))

-- a text that no document is, or that isn't UTF-8
no_document : (item : ℕ) (bytes : List ℕ) (text : Bool) → is_utf8 bytes ≡ text → (IsUtf8 bytes → parse_document bytes ≡ None) → toml_of item bytes ≡ bad TEXT item 0
unfolding toml_of
no_document item bytes false is none = rw is refl
no_document item bytes true is none = rw (is, none (IsUtf8-from_is_utf8 bytes is)) refl

pub returns-in-Err-2-clause-table : goal.returns-in-Err-2-clause-table
returns-in-Err-2-clause-table c =
    let none : IsUtf8 c.args.bytes.now → parse_document c.args.bytes.now ≡ None = c.in-Err.ensures.refused (λ memory. cc (c.if-is_memory.ensures.1 memory)) in
    rw (c.into.ensures, c.bad.ensures.fault) (no_document c.args.item c.args.bytes.now (is_utf8 c.args.bytes.now) refl none)
