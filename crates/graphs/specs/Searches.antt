-- Searches along the edges of a graph in compressed rows.
use Rattle.std.specs.Prelude.{◌≡◌, ℕ, ◌+◌, ◌<◌, ◌≤◌, ◌⊎◌, List, length, count_by, nat_eq, slice_index}
use Rattle.graphs.specs.Records.{PackageRecord, no_wave, of}

-- n rows of packages below n
pub record Graph (starts targets : List ℕ) (n : ℕ) : Type 0 where
  pub long : length starts ≡ n + 1
  pub small : n ≤ 1024
  pub rising : (p : ℕ) → p < n → slice_index starts p ≤ slice_index starts (p + 1)
  pub within : (p : ℕ) → p < n → slice_index starts (p + 1) ≤ length targets
  pub heads : (p k : ℕ) → p < n → slice_index starts p ≤ k → k < slice_index starts (p + 1) → slice_index targets k < n

-- q is in p's row
abbrev pub Edge : List ℕ → List ℕ → ℕ → ℕ → Type 0
Edge starts targets p q = (k : ℕ) × (slice_index starts p ≤ k) × (k < slice_index starts (p + 1)) × (slice_index targets k ≡ q)

-- a chain of edges, none or more, leads from p to q
pub data Reach (E : ℕ → ℕ → Type 0) : ℕ → ℕ → Type 0 where
  here : {p : ℕ} → Reach E p p
  step : {p q r : ℕ} → E p q → Reach E q r → Reach E p r

-- how many packages have no mark
unfoldable pub white : List ℕ → ℕ
white m = count_by (λ x. nat_eq x 0) m

abbrev pub Marked : List ℕ → ℕ → Type 0
Marked m v = 0 < slice_index m v

-- an edge to a package that has no mark in m
abbrev pub Fresh : (ℕ → ℕ → Type 0) → List ℕ → ℕ → ℕ → Type 0
Fresh E m p q = E p q × (slice_index m q ≡ 0)

-- Of the packages that were left up to the k-th, those from some place on are all reached by the k-th,
-- and no edge leads to one of these from a package that was left before that place.
pub record Run (E : ℕ → ℕ → Type 0) (o : List ℕ) (k : ℕ) : Type 0 where
  pub low : ℕ
  pub low_le : low ≤ k
  pub reaches : (j : ℕ) → low ≤ j → j ≤ k → Reach E (slice_index o k) (slice_index o j)
  pub apart : (i j : ℕ) → i < low → low ≤ j → j ≤ k → E (slice_index o i) (slice_index o j) → ⊥

-- each edge of a package that was left goes to a package that has a mark
abbrev pub Closed : (ℕ → ℕ → Type 0) → List ℕ → List ℕ → ℕ → Type 0
Closed E m o c = (k q : ℕ) → k < c → E (slice_index o k) q → Marked m q

-- From marks m, order o and its length c to m', o' and c': the packages newly marked are those newly in the order,
-- and p reaches each by packages that had no mark.
pub record Grown (E : ℕ → ℕ → Type 0) (p : ℕ) (m o : List ℕ) (c : ℕ) (m' o' : List ℕ) (c' : ℕ) : Type 0 where
  pub more : c ≤ c'
  pub tally : c' + white m' ≡ c + white m
  pub kept : (k : ℕ) → k < c → slice_index o' k ≡ slice_index o k
  pub stays : (v : ℕ) → Marked m v → Marked m' v
  pub listed : (v : ℕ) → slice_index m v ≡ 0 → Marked m' v → (k : ℕ) × (c ≤ k) × (k < c') × (slice_index o' k ≡ v)
  pub fresh : (k : ℕ) → c ≤ k → k < c' → slice_index m (slice_index o' k) ≡ 0
  pub marked : (k : ℕ) → c ≤ k → k < c' → Marked m' (slice_index o' k)
  pub reached : (k : ℕ) → c ≤ k → k < c' → Reach (Fresh E m) p (slice_index o' k)
  pub runs : (k : ℕ) → c ≤ k → k < c' → Run E o' k

-- exactly the packages that p reaches by packages with no mark are marked besides
abbrev pub Spread : (ℕ → ℕ → Type 0) → ℕ → List ℕ → List ℕ → Type 0
Spread E p m m' = ((v : ℕ) → Marked m v ⊎ Reach (Fresh E m) p v → Marked m' v) × ((v : ℕ) → Marked m' v → Marked m v ⊎ Reach (Fresh E m) p v)

-- the record of a package that is sorted
abbrev pub sorted_record : ℕ → ℕ → PackageRecord
sorted_record group rank = record { group = group; rank = rank; wave = no_wave }

-- p and q are equal, or chains lead both ways
abbrev pub Mutual : (ℕ → ℕ → Type 0) → ℕ → ℕ → Type 0
Mutual E p q = Reach E p q × Reach E q p

-- the packages of S are sorted into groups with the ranks 0 to g - 1
pub record Classified (E : ℕ → ℕ → Type 0) (S : ℕ → Type 0) (rs : List PackageRecord) (g : ℕ) : Type 0 where
  pub member : (p : ℕ) → S p → Mutual E p (of rs p).group
  pub least : (p q : ℕ) → S p → Mutual E p q → (of rs p).group ≤ q
  pub below : (p : ℕ) → S p → (of rs p).rank < g
  pub used : (k : ℕ) → k < g → (p : ℕ) × S p × ((of rs p).rank ≡ k)
  pub same : (p q : ℕ) → S p → Mutual E p q → (of rs p).rank ≡ (of rs q).rank
  pub apart : (p q : ℕ) → S p → S q → (of rs p).rank ≡ (of rs q).rank → Mutual E p q
  pub falls : (p q : ℕ) → S p → E p q → (of rs q).rank ≤ (of rs p).rank
  pub waveless : (p : ℕ) → S p → (of rs p).wave ≡ no_wave

-- a search that is at rest: the marked packages are those in the order
pub record Whole (E : ℕ → ℕ → Type 0) (m o : List ℕ) (c : ℕ) : Type 0 where
  pub tally : c + white m ≡ length m
  pub closed : Closed E m o c
  pub listed : (v : ℕ) → Marked m v → (k : ℕ) × (k < c) × (slice_index o k ≡ v)
  pub marked : (k : ℕ) → k < c → Marked m (slice_index o k)
  pub runs : (k : ℕ) → k < c → Run E o k

-- an order of all packages below n in which each is the last of a run, along the arcs turned round
pub record Finished (E : ℕ → ℕ → Type 0) (n : ℕ) (f : List ℕ) (e : ℕ) : Type 0 where
  pub all : (v : ℕ) → v < n → (k : ℕ) × (k < e) × (slice_index f k ≡ v)
  pub inside : (k : ℕ) → k < e → slice_index f k < n
  pub runs : (k : ℕ) → k < e → Run (λ a b. E b a) f k

-- the first c packages of the order stand by rising rank
abbrev pub Rising : List PackageRecord → List ℕ → ℕ → Type 0
Rising rs o c = (i j : ℕ) → i ≤ j → j < c → (of rs (slice_index o i)).rank ≤ (of rs (slice_index o j)).rank

-- each package below n is among the first n of the order
abbrev pub Lists : List ℕ → ℕ → Type 0
Lists o n = (v : ℕ) → v < n → (k : ℕ) × (k < n) × (slice_index o k ≡ v)
