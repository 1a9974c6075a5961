-- Texts written one after another.
use Rattle.std.proofs.Common.{◌≡◌, ℕ, Bool, true, false, List, [], ◌∷◌, ◌++◌, refl, ap, ◌∙◌, append_assoc, ℤ}
use Rattle.std.specs.Int.{w16, w32, w64, to_be_bytes, from_bool}
use Rattle.std.specs.List.{flat_map}
use Rattle.farm_history.specs.declared.few.Few.{Few}
use Rattle.farm_history.specs.declared.command.Command.TheVariants.{Dip}
use Rattle.farm_history.specs.declared.entry.Entry.{Entry}
use Rattle.farm_history.specs.Encoding.{command_bytes, entry_encoding, kind_byte, list_bytes, signed_bytes}

-- two texts after a front are one
pub two_joined : (old a b first second : List ℕ) → first ≡ old ++ a → second ≡ first ++ b → second ≡ old ++ (a ++ b)
two_joined old a b first second e1 e2 = e2 ∙ ap (λ text. text ++ b) e1 ∙ append_assoc old a b

-- three texts after a front are one
pub three_joined : (old a b c t1 t2 t3 : List ℕ) → t1 ≡ old ++ a → t2 ≡ t1 ++ b → t3 ≡ t2 ++ c → t3 ≡ old ++ (a ++ (b ++ c))
three_joined old a b c t1 t2 t3 e1 e2 e3 = two_joined old a (b ++ c) t1 t3 e1 (two_joined t1 b c t2 t3 e2 e3)

-- six texts after a front are one
pub six_joined : (old a b c d e f t1 t2 t3 t4 t5 t6 : List ℕ) → t1 ≡ old ++ a → t2 ≡ t1 ++ b → t3 ≡ t2 ++ c → t4 ≡ t3 ++ d → t5 ≡ t4 ++ e → t6 ≡ t5 ++ f →
    t6 ≡ old ++ (a ++ (b ++ (c ++ (d ++ (e ++ f)))))
six_joined old a b c d e f t1 t2 t3 t4 t5 t6 e1 e2 e3 e4 e5 e6 =
    two_joined old a (b ++ (c ++ (d ++ (e ++ f)))) t1 t6 e1
    (two_joined t1 b (c ++ (d ++ (e ++ f))) t2 t6 e2
    (two_joined t2 c (d ++ (e ++ f)) t3 t6 e3
    (two_joined t3 d (e ++ f) t4 t6 e4 (two_joined t4 e f t5 t6 e5 e6))))

-- a dip's kind is the number of its test
pub kind-from_bool : (outage : Bool) → from_bool outage ≡ kind_byte outage
kind-from_bool false = refl
kind-from_bool true = refl

-- the parts of a dip are its bytes
pub dip_bytes : (old : List ℕ) (tank : ℕ) (outage : Bool) (tapes water temperatures : Few) (ambient : ℤ) →
    old ++ ((2 ∷ to_be_bytes w16 tank) ++ ((kind_byte outage ∷ []) ++ (list_bytes tapes ++ (list_bytes water ++ (list_bytes temperatures ++ flat_map signed_bytes (ambient ∷ []))))))
    ≡ old ++ command_bytes (Dip tank outage tapes water temperatures ambient)
unfolding command_bytes
dip_bytes old tank outage tapes water temperatures ambient = simp append_assoc

-- the stamp of an entry and its command are its bytes
pub stamp_and_command : (entry : Entry) →
    (to_be_bytes w32 entry.caller ++ to_be_bytes w32 entry.account ++ to_be_bytes w64 entry.key ++ signed_bytes entry.at) ++ command_bytes entry.cmd ≡ entry_encoding entry
unfolding entry_encoding
stamp_and_command entry = refl
