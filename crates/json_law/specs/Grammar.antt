-- JSON, as RFC 8259 has it. A value is its own text. Bytes stand by their numbers: 34 is a quote, 44 a comma, 48 a zero, 58 a colon, 92 a
-- backslash, 117 a `u`, 91 and 93 are the brackets of arrays, and 123 and 125 those of objects.
use Rattle.std.specs.Prelude.{◌≡◌, ◌≢◌, ◌⊎◌, ℕ, ◌+◌, ◌*◌, ◌≤◌, ◌<◌, List, [], ◌∷◌, ◌++◌, true, Some, codes}
use Rattle.std.specs.Char.{encode_utf8, is_ascii_digit}
use Rattle.std.specs.List.{AllByRecursion}
use Rattle.json.specs.Text.{code_unit}
use Rattle.list_law.specs.Members.{IsIn}

-- space, tab, line feed and carriage return
abbrev pub AreBlanks : List ℕ → Type 0
AreBlanks bytes = AllByRecursion (IsIn (32 ∷ 9 ∷ 10 ∷ 13 ∷ [])) bytes

-- the value with blanks around it
abbrev pub IsPadded : List ℕ → List ℕ → Type 0
IsPadded value text = (before after : List ℕ) × AreBlanks before × AreBlanks after × (text ≡ before ++ (value ++ after))

-- ---- strings

-- what a backslash and a byte stand for
abbrev pub escapes : List (ℕ × ℕ)
escapes = (34, 34) ∷ (92, 92) ∷ (47, 47) ∷ (98, 8) ∷ (102, 12) ∷ (110, 10) ∷ (114, 13) ∷ (116, 9) ∷ []

-- The content of a string, and how it is written: as it is, with a backslash, or by a code point's one or two units of UTF-16.
pub data IsContent : List ℕ → List ℕ → Type 0 where
  none : IsContent [] []
  plain : {c : ℕ} {s t : List ℕ} → 32 ≤ c → c ≢ 34 → c ≢ 92 → IsContent s t → IsContent (c ∷ s) (c ∷ t)
  short : {c e : ℕ} {s t : List ℕ} → IsIn escapes (e, c) → IsContent s t → IsContent (c ∷ s) (92 ∷ e ∷ t)
  unit : {u a b c d : ℕ} {s t : List ℕ} → code_unit a b c d ≡ Some u → (u < 0xd800) ⊎ (0xe000 ≤ u) → IsContent s t
      → IsContent (encode_utf8 u ++ s) (92 ∷ 117 ∷ a ∷ b ∷ c ∷ d ∷ t)
  pair : {high low a b c d e f g h : ℕ} {s t : List ℕ} → code_unit a b c d ≡ Some (0xd800 + high) → code_unit e f g h ≡ Some (0xdc00 + low)
      → high < 1024 → low < 1024 → IsContent s t
      → IsContent (encode_utf8 (0x10000 + high * 1024 + low) ++ s) (92 ∷ 117 ∷ a ∷ b ∷ c ∷ d ∷ 92 ∷ 117 ∷ e ∷ f ∷ g ∷ h ∷ t)

-- the content between quotes
abbrev pub IsString : List ℕ → List ℕ → Type 0
IsString content text = (written : List ℕ) × IsContent content written × (text ≡ 34 ∷ written ++ 34 ∷ [])

-- ---- numbers

abbrev pub AreDigits : List ℕ → Type 0
AreDigits ds = (ds ≢ []) × AllByRecursion (λ d. is_ascii_digit d ≡ true) ds

-- a zero alone, or digits of which the first is none
abbrev pub IsWhole : List ℕ → Type 0
IsWhole text = (text ≡ 48 ∷ []) ⊎ ((d : ℕ) × (ds : List ℕ) × (text ≡ d ∷ ds) × (d ≢ 48) × AreDigits text)

-- [ "." digits ]
abbrev pub IsFraction : List ℕ → Type 0
IsFraction text = (text ≡ []) ⊎ ((ds : List ℕ) × (text ≡ 46 ∷ ds) × AreDigits ds)

-- [ ( "e" | "E" ) [ "+" | "-" ] digits ]
abbrev pub IsExponent : List ℕ → Type 0
IsExponent text =
    (text ≡ [])
    ⊎ ((e : ℕ) × (sign ds : List ℕ) × (text ≡ e ∷ sign ++ ds) × IsIn (101 ∷ 69 ∷ []) e × IsIn ([] ∷ codes "+" ∷ codes "-" ∷ []) sign × AreDigits ds)

-- [ "-" ] whole [ fraction ] [ exponent ]
pub record IsNumber (text : List ℕ) : Type 0 where
  pub sign : List ℕ
  pub whole : List ℕ
  pub fraction : List ℕ
  pub exponent : List ℕ
  pub written : text ≡ sign ++ (whole ++ (fraction ++ exponent))
  pub signed : (sign ≡ []) ⊎ (sign ≡ codes "-")
  pub is_whole : IsWhole whole
  pub is_fraction : IsFraction fraction
  pub is_exponent : IsExponent exponent

-- ---- values

mutual
  pub data IsJson : List ℕ → Type 0 where
    word : {text : List ℕ} → IsIn (codes "null" ∷ codes "true" ∷ codes "false" ∷ []) text → IsJson text
    number : {text : List ℕ} → IsNumber text → IsJson text
    string : {content text : List ℕ} → IsString content text → IsJson text
    array : {vs : List (List ℕ)} {text : List ℕ} → IsArray vs text → IsJson text
    object : {ms : List (List ℕ × List ℕ)} {text : List ℕ} → IsObject ms text → IsJson text

  -- an array of these values
  pub data IsArray : List (List ℕ) → List ℕ → Type 0 where
    no_items : (b : List ℕ) → AreBlanks b → IsArray [] (91 ∷ b ++ 93 ∷ [])
    items : {vs : List (List ℕ)} {t : List ℕ} → AreItems vs t → IsArray vs (91 ∷ t ++ 93 ∷ [])

  -- the values with commas between
  pub data AreItems : List (List ℕ) → List ℕ → Type 0 where
    last_item : {v t : List ℕ} → IsJson v → IsPadded v t → AreItems (v ∷ []) t
    item : {v t us : List ℕ} {vs : List (List ℕ)} → IsJson v → IsPadded v t → AreItems vs us → AreItems (v ∷ vs) (t ++ 44 ∷ us)

  -- an object of these keys with their values
  pub data IsObject : List (List ℕ × List ℕ) → List ℕ → Type 0 where
    no_members : (b : List ℕ) → AreBlanks b → IsObject [] (123 ∷ b ++ 125 ∷ [])
    members : {ms : List (List ℕ × List ℕ)} {t : List ℕ} → AreMembers ms t → IsObject ms (123 ∷ t ++ 125 ∷ [])

  -- each key, a colon and its value, with commas between
  pub data AreMembers : List (List ℕ × List ℕ) → List ℕ → Type 0 where
    last_member : {k n s v t : List ℕ} → IsString k n → IsPadded n s → IsJson v → IsPadded v t → AreMembers ((k, v) ∷ []) (s ++ 58 ∷ t)
    member : {k n s v t us : List ℕ} {ms : List (List ℕ × List ℕ)} → IsString k n → IsPadded n s → IsJson v → IsPadded v t → AreMembers ms us
        → AreMembers ((k, v) ∷ ms) (s ++ 58 ∷ (t ++ 44 ∷ us))

-- of the members with this key, the last has this value
abbrev pub Says : List (List ℕ × List ℕ) → List ℕ → List ℕ → Type 0
Says ms key value = (before after : List (List ℕ × List ℕ)) × (ms ≡ before ++ (key, value) ∷ after) × AllByRecursion (λ m. m.0 ≢ key) after
