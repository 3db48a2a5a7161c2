-- The order in which the roofs of a sheet are listed: document 02, A7.
use Rattle.std.specs.Prelude.{ℕ, zero, suc, ◌+◌, ◌-◌, ◌<◌, Bool, true, false, cond, not, ◌&&◌, ◌||◌, List, [], ◌∷◌, ◌++◌, ◌⊎◌, ◌≡◌, eqb, length, take, get_or}
use Rattle.circles.specs.Following.{listed}

-- the lowest of the k indexes from i on that passes a test; 0 where none does
unfoldable pub lowest : (ℕ → Bool) → ℕ → ℕ → ℕ
lowest test i zero = 0
lowest test i (suc k) = cond (test i) i (lowest test (suc i) k)

-- a roof is left, and its upper item, if it has one, is already listed; 0 stands for no upper item
unfoldable pub ready : (ℕ → ℕ) → (ℕ → Bool) → ℕ → Bool
ready up done i = not (done i) && (eqb (up i) 0 || done (up i))

-- "each next roof is the lowest index left whose upper item, if it has one, is already listed"; 0 where there is none
unfoldable pub next_roof : (ℕ → ℕ) → ℕ → (ℕ → Bool) → ℕ
next_roof up n done = lowest (ready up done) 1 (n - 1)

-- a roof at the end of a list; 0 is no roof
unfoldable pub added : List ℕ → ℕ → List ℕ
added l zero = l
added l (suc i) = l ++ (suc i ∷ [])

-- the list after k such steps
unfoldable pub first_roofs : (ℕ → ℕ) → ℕ → ℕ → List ℕ
first_roofs up n zero = []
first_roofs up n (suc k) = added (first_roofs up n k) (next_roof up n (listed (first_roofs up n k)))

-- the order in which the roofs of a sheet of n items are listed
unfoldable pub order : (ℕ → ℕ) → ℕ → List ℕ
order up n = first_roofs up n (n - 1)

-- how often an item is in a list
unfoldable pub times : List ℕ → ℕ → ℕ
times [] i = 0
times (x ∷ l) i = cond (eqb x i) 1 0 + times l i

-- what is owed of an order l of the roofs of n items: every place has a roof, every roof is listed exactly once, and every upper roof
-- before what stands below it
pub record Ordered (up : ℕ → ℕ) (n : ℕ) (l : List ℕ) : Type 0 where
  pub places : length l ≡ n - 1
  pub roof : (j : ℕ) → j < n - 1 → (0 < get_or l j 0) × (get_or l j 0 < n)
  pub once : (i : ℕ) → 0 < i → i < n → times l i ≡ 1
  pub upper_first : (j : ℕ) → j < n - 1 → (up (get_or l j 0) ≡ 0) ⊎ (listed (take j l) (up (get_or l j 0)) ≡ true)

-- the roofs 1 to k in the order of their indexes
unfoldable pub up_to : ℕ → List ℕ
up_to zero = []
up_to (suc k) = up_to k ++ (suc k ∷ [])

-- item i is marked in a table
abbrev pub marked_in : List Bool → ℕ → Bool
marked_in marks i = get_or marks i false
