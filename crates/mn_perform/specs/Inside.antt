-- Whether a file lies in a folder.
use Rattle.std.specs.Prelude.{ℕ, Bool, ◌&&◌, ◌==◌, nat_lt, nat_eq, List, length, take, slice_index_or}
use lib.Pointwise.{pointwise}

-- the name begins with the folder's name and a slash
abbrev pub is_inside : List ℕ → List ℕ → Bool
is_inside name folder =
    nat_lt (length folder) (length name) && (pointwise nat_eq (take (length folder) name) folder && (slice_index_or name (length folder) 0 == 47))
