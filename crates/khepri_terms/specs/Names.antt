-- How names are spelled.
use Rattle.std.specs.Prelude.{◌≡◌, ℕ, ◌<◌, ◌≤◌, Bool, false, ◌&&◌, ◌||◌, ◌==◌, if◌then◌else◌, List, [], ◌∷◌, ◌++◌, length, drop, Option, Some, None}
use Rattle.khepri_terms.specs.declared.limits.TheConstants.{MAX_NAME}
use Rattle.khepri_terms.specs.declared.name.Kind.{Kind}
use Rattle.khepri_terms.specs.declared.name.Kind.TheVariants.{Atom, Text}
use Rattle.khepri_terms.specs.Terms.{NameText}
use Rattle.khepri_terms.specs.Bytes.{is_plain, bytes_text, bytes_at, AreBytes}

-- `.` or `..`
abbrev pub is_dots : List ℕ → Bool
is_dots [] = false
is_dots (a ∷ []) = a == 46
is_dots (a ∷ b ∷ []) = a == 46 && b == 46
is_dots (a ∷ b ∷ c ∷ rest) = false

-- the bytes of a name; of `.` and `..` the first is escaped
unfoldable pub name_text : List ℕ → List ℕ
name_text bytes = if is_dots bytes then 37 ∷ 50 ∷ 69 ∷ drop 1 bytes else bytes_text bytes

-- the bytes of a name: 1 to 255
pub record IsNameBytes (name : List ℕ) : Type 0 where
  pub low : 0 < length name
  pub high : length name ≤ MAX_NAME
  pub bytes : AreBytes name

abbrev pub IsName : NameText → Type 0
IsName n = IsNameBytes n.bytes

-- a `:` stands before an atom
abbrev pub mark : Kind → List ℕ
mark Atom = 58 ∷ []
mark Text = []

-- a name of either kind
abbrev pub comp_text : NameText → List ℕ
comp_text n = mark n.kind ++ name_text n.bytes

-- a byte that may go on with bytes
abbrev pub spells : ℕ → Bool
spells b = is_plain b || b == 37

-- what follows a name does not go on with it
abbrev pub Stops : List ℕ → Type 0
Stops [] = Unit {0}
Stops (b ∷ rest) = spells b ≡ false

-- the dots behind an escaped one, and what is after them
abbrev pub dots_at : List ℕ → List ℕ × List ℕ
dots_at [] = (46 ∷ [], [])
dots_at (b ∷ text) = if b == 46 then (46 ∷ 46 ∷ [], text) else (46 ∷ [], b ∷ text)

-- bytes that stand for a name as they are
abbrev pub undotted : List ℕ × List ℕ → Option (List ℕ × List ℕ)
undotted ([], rest) = None
undotted (b ∷ bytes, rest) = if is_dots (b ∷ bytes) then None else Some (b ∷ bytes, rest)

-- the bytes of the longest name that is spelled at the front, and what is after it
unfoldable pub name_at : List ℕ → Option (List ℕ × List ℕ)
name_at [] = undotted (bytes_at MAX_NAME [])
name_at (a ∷ []) = undotted (bytes_at MAX_NAME (a ∷ []))
name_at (a ∷ b ∷ []) = undotted (bytes_at MAX_NAME (a ∷ b ∷ []))
name_at (a ∷ b ∷ c ∷ text) = if a == 37 && b == 50 && c == 69 then Some (dots_at text) else undotted (bytes_at MAX_NAME (a ∷ b ∷ c ∷ text))

-- bytes as a name of this kind
abbrev pub named : Kind → Option (List ℕ × List ℕ) → Option (NameText × List ℕ)
named kind None = None
named kind (Some x) = Some (record { kind = kind; bytes = x.0 }, x.1)

-- the longest name of either kind that is spelled at the front, and what is after it
unfoldable pub comp_at : List ℕ → Option (NameText × List ℕ)
comp_at [] = None
comp_at (b ∷ text) = if b == 58 then named Atom (name_at text) else named Text (name_at (b ∷ text))
