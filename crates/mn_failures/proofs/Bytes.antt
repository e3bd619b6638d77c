-- The words of a text, byte by byte.
use Rattle.std.proofs.Common.{◌≡◌, ℕ, suc, Bool, true, false, cond, List, [], ◌∷◌, refl, ap, ◌∙◌, arith}
use Rattle.std.specs.Prelude.{not, length, ◌==◌, filter}
use Rattle.std.specs.List.{slice_split, onto_first}
use Rattle.mn_text.specs.Words.{is_blank, words}

-- the first of some parts, and those behind it
abbrev pub first_of : {A : Type 0} → List (List A) → List A
first_of [] = []
first_of (part ∷ parts) = part

abbrev pub but_first : {A : Type 0} → List A → List A
but_first [] = []
but_first (part ∷ parts) = parts

-- a word before others, unless it is empty
abbrev pub put : List ℕ → List (List ℕ) → List (List ℕ)
put [] ws = ws
put (byte ∷ word) ws = (byte ∷ word) ∷ ws

-- what a text has before its first blank, and the words behind that
abbrev pub head_of : List ℕ → List ℕ
head_of [] = []
head_of (byte ∷ bytes) = cond (is_blank byte) [] (byte ∷ head_of bytes)

abbrev pub behind_of : List ℕ → List (List ℕ)
behind_of [] = []
behind_of (byte ∷ bytes) = cond (is_blank byte) (put (head_of bytes) (behind_of bytes)) (behind_of bytes)

abbrev pub full : List ℕ → Bool
full part = not (length part == 0)

positive : (n : ℕ) → (suc n == 0) ≡ false
positive n = grind arith

kept : (parts : List (List ℕ)) → filter full parts ≡ put (first_of parts) (filter full (but_first parts))
kept [] = refl
kept ([] ∷ parts) = refl
kept ((byte ∷ part) ∷ parts) = ap (λ b. cond (not b) ((byte ∷ part) ∷ filter full parts) (filter full parts)) (positive (length part))

record Parted (bytes : List ℕ) : Type 0 where
  first : first_of (slice_split is_blank bytes) ≡ head_of bytes
  behind : filter full (but_first (slice_split is_blank bytes)) ≡ behind_of bytes

first_onto : (byte : ℕ) (parts : List (List ℕ)) → first_of (onto_first byte parts) ≡ byte ∷ first_of parts
first_onto byte [] = refl
first_onto byte (part ∷ parts) = refl

but_onto : (byte : ℕ) (parts : List (List ℕ)) → but_first (onto_first byte parts) ≡ but_first parts
but_onto byte [] = refl
but_onto byte (part ∷ parts) = refl

first_step : (b : Bool) (byte : ℕ) (parts : List (List ℕ)) (word : List ℕ) → first_of parts ≡ word →
    first_of (cond b ([] ∷ parts) (onto_first byte parts)) ≡ cond b [] (byte ∷ word)
first_step true byte parts word first = refl
first_step false byte parts word first = first_onto byte parts ∙ ap (λ w. byte ∷ w) first

behind_step : (b : Bool) (byte : ℕ) (parts : List (List ℕ)) (word : List ℕ) (ws : List (List ℕ)) → first_of parts ≡ word →
    filter full (but_first parts) ≡ ws → filter full (but_first (cond b ([] ∷ parts) (onto_first byte parts))) ≡ cond b (put word ws) ws
behind_step true byte parts word ws first behind = kept parts ∙ ap (λ w. put w (filter full (but_first parts))) first ∙ ap (put word) behind
behind_step false byte parts word ws first behind = ap (filter full) (but_onto byte parts) ∙ behind

parted : (bytes : List ℕ) → Parted bytes
parted [] = record { first = refl; behind = refl }
parted (byte ∷ bytes) =
    let more = parted bytes in
    record {
      first = first_step (is_blank byte) byte (slice_split is_blank bytes) (head_of bytes) more.first;
      behind = behind_step (is_blank byte) byte (slice_split is_blank bytes) (head_of bytes) (behind_of bytes) more.first more.behind;
    }

-- the words of a text are what stands before its first blank, unless that is nothing, and those behind
pub words_are : (bytes : List ℕ) → words bytes ≡ put (head_of bytes) (behind_of bytes)
words_are bytes =
    let parts = slice_split is_blank bytes in
    let found = parted bytes in
    kept parts ∙ ap (λ w. put w (filter full (but_first parts))) found.first ∙ ap (put (head_of bytes)) found.behind
