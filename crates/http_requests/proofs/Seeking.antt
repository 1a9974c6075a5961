-- The route that a path matches, among routes whose patterns are bytes and at most a parameter at the end.
use Rattle.std.proofs.Common.{◌≡◌, ◌⊎◌, ℕ, zero, suc, ◌-◌, ◌<◌, ◌==◌, ◌&&◌, not, Bool, true, false, cond, List, [], ◌∷◌, ◌++◌, length, Option, Some, None, refl, sym, ap, subst, ◌∙◌, arith, inl, inr, ltb}
use Rattle.std.proofs.lemmas.Bool.{false≢true}
use Rattle.std.proofs.lemmas.Bool.Decides.{nat_tests}
use Rattle.matchit.specs.Rows.{RowsOf, catch_all_token, param_token}
use Rattle.matchit.specs.Seek.{has_slash, longest_from, or_else, own, param_step, seek, segment, step, with_suffix}

-- a pattern of bytes, and at most a parameter at its end
abbrev pub IsPlainOn : Bool → Bool → List ℕ → Type 0 → Type 0
IsPlainOn true catches rest more = rest ≡ []
IsPlainOn false true rest more = ⊥
IsPlainOn false false rest more = more

abbrev pub IsPlain : List ℕ → Type 0
IsPlain [] = Unit {0}
IsPlain (token ∷ rest) = IsPlainOn (token == param_token) (token == catch_all_token) rest (IsPlain rest)

-- what such a pattern says of a path: the bytes, and at least one byte for a parameter
abbrev pub MatchesOn : Bool → ℕ → (List ℕ → Type 0) → List ℕ → Type 0
MatchesOn true token more path = 0 < length path
MatchesOn false token more path = (rest : List ℕ) × (path ≡ token ∷ rest) × more rest

abbrev pub Matches : List ℕ → List ℕ → Type 0
Matches [] path = path ≡ []
Matches (token ∷ rest) path = MatchesOn (token == param_token) token (Matches rest) path

-- the tokens are bytes
abbrev pub is_bytes : List ℕ → Bool
is_bytes [] = true
is_bytes (token ∷ rest) = not (token == param_token) && is_bytes rest

-- a path that matches bytes is these bytes
pub literal : (bytes path : List ℕ) → is_bytes bytes ≡ true → Matches bytes path → path ≡ bytes
literal [] path are is = is
literal (byte ∷ bytes) path are is = by (byte == param_token) are is (literal bytes)
  where
    by : (v : Bool) → (not v && is_bytes bytes) ≡ true → MatchesOn v byte (Matches bytes) path
        → ((rest : List ℕ) → is_bytes bytes ≡ true → Matches bytes rest → rest ≡ bytes) → path ≡ byte ∷ bytes
    by true wrong m ih = absurd (false≢true wrong)
    by false more m ih = m.1 ∙ ap (λ rest. byte ∷ rest) (ih m.0 more m.2)

-- a path that matches bytes and a parameter begins with these bytes
pub begins : (bytes path : List ℕ) → is_bytes bytes ≡ true → Matches (bytes ++ param_token ∷ []) path
    → (rest : List ℕ) × (path ≡ bytes ++ rest)
begins [] path are is = (path, refl)
begins (byte ∷ bytes) path are is = by (byte == param_token) are is (begins bytes)
  where
    by : (v : Bool) → (not v && is_bytes bytes) ≡ true → MatchesOn v byte (Matches (bytes ++ param_token ∷ [])) path
        → ((rest : List ℕ) → is_bytes bytes ≡ true → Matches (bytes ++ param_token ∷ []) rest → (more : List ℕ) × (rest ≡ bytes ++ more))
        → (rest : List ℕ) × (path ≡ byte ∷ bytes ++ rest)
    by true wrong m ih = absurd (false≢true wrong)
    by false more m ih = let later = ih m.0 more m.2 in (later.0, m.1 ∙ ap (λ rest. byte ∷ rest) later.1)

plain_rest : (token : ℕ) (rest : List ℕ) → IsPlain (token ∷ rest) → IsPlain rest
plain_rest token rest is = by (token == param_token) (token == catch_all_token) is
  where
    by : (p c : Bool) → IsPlainOn p c rest (IsPlain rest) → IsPlain rest
    by true c none = subst IsPlain (sym none) tt
    by false true wrong = absurd wrong
    by false false more = more

matches_more : (token byte : ℕ) (rest path : List ℕ) → token ≡ byte → Matches rest path → Matches (token ∷ rest) (byte ∷ path)
matches_more token byte rest path same is = by (token == param_token)
  where
    by : (v : Bool) → MatchesOn v token (Matches rest) (byte ∷ path)
    by true = omega arith
    by false = (path, ap (λ b. b ∷ path) (sym same), is)

module _ {K : Type 0} where
  -- one of the rows has this
  abbrev pub AnyRow : RowsOf K → (List ℕ → K → Type 0) → Type 0
  AnyRow [] P = ⊥
  AnyRow ((pattern, key) ∷ rows) P = P pattern key ⊎ AnyRow rows P

  -- each row has this
  abbrev pub AllRows : RowsOf K → (List ℕ → K → Type 0) → Type 0
  AllRows [] P = Unit {0}
  AllRows ((pattern, key) ∷ rows) P = P pattern key × AllRows rows P

  abbrev pub AllPlain : RowsOf K → Type 0
  AllPlain [] = Unit {0}
  AllPlain ((pattern, key) ∷ rows) = IsPlain pattern × AllPlain rows

  -- the path matches the row of this key
  abbrev pub Found : RowsOf K → List ℕ → K → Type 0
  Found rows path found = AnyRow rows (λ pattern key. Matches pattern path × (key ≡ found))

  -- what each key has that a path matches, the key that is found has
  pub of_found : (Q : K → Type 0) (rows : RowsOf K) (path : List ℕ) (found : K)
      → AllRows rows (λ pattern key. Matches pattern path → Q key) → Found rows path found → Q found
  of_found Q [] path found all wrong = absurd wrong
  of_found Q ((pattern, key) ∷ rows) path found all (inl is) = subst Q is.1 (all.0 is.0)
  of_found Q ((pattern, key) ∷ rows) path found all (inr is) = of_found Q rows path found all.1 is

  plain_step : (byte : ℕ) (rows : RowsOf K) → AllPlain rows → AllPlain (step byte rows)
  plain_step byte [] are = tt
  plain_step byte (([], key) ∷ rows) are = plain_step byte rows are.1
  plain_step byte ((token ∷ rest, key) ∷ rows) are =
      elim (token == byte) as (λ v. AllPlain (cond v ((rest, key) ∷ step byte rows) (step byte rows))) [
        | true ↦ (plain_rest token rest are.0, plain_step byte rows are.1)
        | false ↦ plain_step byte rows are.1
      ]

  found_step : (byte : ℕ) (path : List ℕ) (found : K) (rows : RowsOf K) → Found (step byte rows) path found
      → Found rows (byte ∷ path) found
  found_step byte path found [] wrong = wrong
  found_step byte path found (([], key) ∷ rows) is = inr (found_step byte path found rows is)
  found_step byte path found ((token ∷ rest, key) ∷ rows) is = by (token == byte) refl is (found_step byte path found rows)
    where
      by : (v : Bool) → (token == byte) ≡ v → Found (cond v ((rest, key) ∷ step byte rows) (step byte rows)) path found
          → (Found (step byte rows) path found → Found rows (byte ∷ path) found)
          → Found ((token ∷ rest, key) ∷ rows) (byte ∷ path) found
      by true e (inl m) ih =
          let same : token ≡ byte = grind (arith, nat_tests) in
          inl (matches_more token byte rest path same m.0, m.1)
      by true e (inr m) ih = inr (ih m)
      by false e m ih = inr (ih m)

  found_end : (rows : RowsOf K) (found : K) → own rows ≡ Some found → Found rows [] found
  found_end [] found e = cc
  found_end (([], key) ∷ rows) found e =
      let same : key ≡ found = cc in
      inl (refl, same)
  found_end ((token ∷ rest, key) ∷ rows) found e = inr (found_end rows found e)

  found_parameter : (byte : ℕ) (path : List ℕ) (rows : RowsOf K) (found : K) → own (step param_token rows) ≡ Some found
      → Found rows (byte ∷ path) found
  found_parameter byte path [] found e = cc
  found_parameter byte path (([], key) ∷ rows) found e = inr (found_parameter byte path rows found e)
  found_parameter byte path ((token ∷ rest, key) ∷ rows) found e =
      by (token == param_token) refl rest e (found_parameter byte path rows found)
    where
      by : (v : Bool) → (token == param_token) ≡ v → (after : List ℕ)
          → own (cond v ((after, key) ∷ step param_token rows) (step param_token rows)) ≡ Some found
          → (own (step param_token rows) ≡ Some found → Found rows (byte ∷ path) found)
          → Found ((token ∷ rest, key) ∷ rows) (byte ∷ path) found
      by true q [] e2 ih =
          let same : key ≡ found = cc in
          let some : 0 < length (byte ∷ path) = omega arith in
          inl (subst (λ (v : Bool). MatchesOn v token (Matches rest) (byte ∷ path)) (sym q) some, same)
      by true q (x ∷ after) e2 ih = inr (ih e2)
      by false q after e2 ih = inr (ih e2)

  param_none : (path : List ℕ) → (param_step {K = K} [] path).1 ≡ []
  unfolding param_step
  param_none path =
      elim (has_slash path) as (λ v. (cond {A = ℕ × RowsOf K} v (0, []) (length path, [])).1 ≡ []) [
        | true ↦ refl
        | false ↦ refl
      ]

  seek_none : (skip : ℕ) (path : List ℕ) → seek {K = K} skip [] path ≡ None
  unfolding seek
  seek_none skip [] = refl
  seek_none (suc skip) (byte ∷ path) = seek_none skip path
  seek_none zero (byte ∷ path) =
      simp (seek_none 0 path, param_none (byte ∷ path), seek_none (((param_step {K = K} [] (byte ∷ path)).0) - 1) path)

  seek_past : (rows : RowsOf K) (path : List ℕ) → seek (length path) rows path ≡ own rows
  unfolding seek
  seek_past rows [] = refl
  seek_past rows (byte ∷ path) = seek_past rows path

  no_suffix : (seg : List ℕ) (rows : RowsOf K) → AllPlain rows → longest_from seg [] (step param_token rows) ≡ []
  no_suffix seg [] are = refl
  no_suffix seg (([], key) ∷ rows) are = no_suffix seg rows are.1
  no_suffix seg ((token ∷ rest, key) ∷ rows) are =
      by (token == param_token) (token == catch_all_token) are.0 (no_suffix seg rows are.1)
    where
      by : (v c : Bool) → IsPlainOn v c rest (IsPlain rest) → longest_from seg [] (step param_token rows) ≡ []
          → longest_from seg [] (cond v ((rest, key) ∷ step param_token rows) (step param_token rows)) ≡ []
      by true c none ih =
          subst (λ (t : List ℕ). longest_from seg [] ((t, key) ∷ step param_token rows) ≡ []) (sym none) ih
      by false true wrong ih = absurd wrong
      by false false more ih = ih

  no_catch_all : (rows : RowsOf K) → AllPlain rows → own (step catch_all_token rows) ≡ None
  no_catch_all [] are = refl
  no_catch_all (([], key) ∷ rows) are = no_catch_all rows are.1
  no_catch_all ((token ∷ rest, key) ∷ rows) are =
      by (token == param_token) (token == catch_all_token) refl refl are.0 (no_catch_all rows are.1)
    where
      by : (v c : Bool) → (token == param_token) ≡ v → (token == catch_all_token) ≡ c → IsPlainOn v c rest (IsPlain rest)
          → own (step catch_all_token rows) ≡ None
          → own (cond c ((rest, key) ∷ step catch_all_token rows) (step catch_all_token rows)) ≡ None
      by true true e f none ih =
          let one : token ≡ 256 = grind (arith, nat_tests) in
          let other : token ≡ 257 = grind (arith, nat_tests) in
          absurd (omega (arith, one, other))
      by true false e f none ih = ih
      by false true e f wrong ih = absurd wrong
      by false false e f more ih = ih

  which : (one two three : Option K) (found : K) → or_else one (or_else two three) ≡ Some found
      → (one ≡ Some found) ⊎ ((two ≡ Some found) ⊎ (three ≡ Some found))
  which (Some key) two three found e = inl e
  which None (Some key) three found e = inr (inl e)
  which None None three found e = inr (inr e)

  after_parameter : (rows : RowsOf K) (byte : ℕ) (path : List ℕ) (found : K) → AllPlain rows
      → seek ((param_step (step param_token rows) (byte ∷ path)).0 - 1) (param_step (step param_token rows) (byte ∷ path)).1 path ≡ Some found
      → own (step param_token rows) ≡ Some found
  unfolding param_step
  after_parameter rows byte path found are e =
      by (has_slash (byte ∷ path)) (subst Taken (no_suffix (segment (byte ∷ path)) rows are) e)
    where
      Taken : List ℕ → Type 0
      Taken suffix =
          seek
          ((cond {A = ℕ × RowsOf K} (ltb 0 (length suffix)) (length (segment (byte ∷ path)) - length suffix, with_suffix suffix (step param_token rows)) (cond {A = ℕ × RowsOf K} (has_slash (byte ∷ path)) (0, []) (length (byte ∷ path), step param_token rows))).0 - 1)
          (cond {A = ℕ × RowsOf K} (ltb 0 (length suffix)) (length (segment (byte ∷ path)) - length suffix, with_suffix suffix (step param_token rows)) (cond {A = ℕ × RowsOf K} (has_slash (byte ∷ path)) (0, []) (length (byte ∷ path), step param_token rows))).1
          path ≡ Some found

      by : (v : Bool)
          → seek ((cond {A = ℕ × RowsOf K} v (0, []) (length (byte ∷ path), step param_token rows)).0 - 1) (cond {A = ℕ × RowsOf K} v (0, []) (length (byte ∷ path), step param_token rows)).1 path ≡ Some found
          → own (step param_token rows) ≡ Some found
      by true e2 =
          let none = seek_none (0 - 1) path in
          cc
      by false e2 =
          let n : length (byte ∷ path) - 1 ≡ length path = omega arith in
          sym (seek_past (step param_token rows) path)
          ∙ subst (λ (m : ℕ). seek m (step param_token rows) path ≡ Some found) n e2

  -- a path that is found matches the row of what was found
  pub found_matches : (path : List ℕ) (rows : RowsOf K) (found : K) → AllPlain rows → seek 0 rows path ≡ Some found
      → Found rows path found
  unfolding seek
  found_matches [] rows found are e = found_end rows found e
  found_matches (byte ∷ path) rows found are e =
      elim (which (seek 0 (step byte rows) path) (seek ((param_step (step param_token rows) (byte ∷ path)).0 - 1) (param_step (step param_token rows) (byte ∷ path)).1 path) (own (step catch_all_token rows)) found e) [
        | inl by_byte ↦ found_step byte path found rows (found_matches path (step byte rows) found (plain_step byte rows are) by_byte)
        | inr other ↦
            elim other [
              | inl by_parameter ↦ found_parameter byte path rows found (after_parameter rows byte path found are by_parameter)
              | inr by_all ↦
                  let none = no_catch_all rows are in
                  absurd cc
            ]
      ]

  -- what is found after a byte is found
  pub found_after : (byte : ℕ) (path : List ℕ) (rows : RowsOf K) (found : K) → seek 0 (step byte rows) path ≡ Some found
      → seek 0 rows (byte ∷ path) ≡ Some found
  unfolding seek
  found_after byte path rows found e = rw e refl

  -- a parameter takes a path without a slash whole
  pub found_by_parameter : (byte : ℕ) (path : List ℕ) (found : K) → has_slash (byte ∷ path) ≡ false
      → (param_token == byte) ≡ false → seek 0 ((param_token ∷ [], found) ∷ []) (byte ∷ path) ≡ Some found
  unfolding seek param_step
  found_by_parameter byte path found slash other =
      subst (λ (v : Bool). Answer v (has_slash (byte ∷ path))) (sym other) (subst (λ (v : Bool). Answer false v) (sym slash) whole)
    where
      Answer : Bool → Bool → Type 0
      Answer here v =
          or_else (seek 0 (cond {A = RowsOf K} here (([], found) ∷ []) []) path)
          (or_else (seek ((cond {A = ℕ × RowsOf K} v (0, []) (length (byte ∷ path), ([], found) ∷ [])).0 - 1) (cond {A = ℕ × RowsOf K} v (0, []) (length (byte ∷ path), ([], found) ∷ [])).1 path) None) ≡ Some found

      whole : Answer false false
      whole =
          let n : length (byte ∷ path) - 1 ≡ length path = omega arith in
          let past : seek (length (byte ∷ path) - 1) (([], found) ∷ []) path ≡ Some found =
          ap (λ (m : ℕ). seek {K = K} m (([], found) ∷ []) path) n ∙ seek_past (([], found) ∷ []) path in
          let none = seek_none 0 path in
          rw (none, past) refl
