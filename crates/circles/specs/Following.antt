-- Following upper items from one of n items: document 02, A7.
use Rattle.std.specs.Prelude.{ℕ, zero, suc, Bool, false, ◌||◌, List, [], ◌∷◌, eqb, get_or}

-- the upper item of item i by a table; 0, the site's index, where it has none
abbrev pub upper_in : List ℕ → ℕ → ℕ
upper_in table i = get_or table i 0

-- item i is one of the k items that following upper items from j meets, j the first of them
unfoldable pub meets : (ℕ → ℕ) → ℕ → ℕ → ℕ → Bool
meets up i j zero = false
meets up i j (suc k) = eqb j i || meets up i (up j) k

-- "following upper items from one comes back to it": among n items, n steps show it
unfoldable pub comes_back : (ℕ → ℕ) → ℕ → ℕ → Bool
comes_back up n i = meets up i (up i) n

-- an item is in a list
unfoldable pub listed : List ℕ → ℕ → Bool
listed [] i = false
listed (x ∷ l) i = eqb x i || listed l i
