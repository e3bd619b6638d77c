-- Counts of faults, and the answers that they explain.
use Rattle.std.specs.Prelude.{◌≡◌, ℕ, ◌+◌, ◌-◌, ◌^◌, ◌≤◌, min, Option, None, Some, IsSomeAnd, Result, Ok, Err}
use Rattle.mn_edge.specs.declared.device.DeviceBad.{DeviceBad}
use Rattle.mn_edge.specs.declared.device.DeviceBad.TheVariants.{Failed, NoMemory}

-- A count is none for a sound device, which fails by itself at no call.

-- the count rose: it is greater than before, or stands at 2^64 - 1, the end of its type
abbrev pub Rose : Option ℕ → Option ℕ → Type 0
Rose None now = ⊥
Rose (Some before) now = IsSomeAnd now (λ n. min (before + 1) (2 ^ 64 - 1) ≤ n)

-- a failure has its cause: the count rose, and didn't fall; or the device is sound, and it has this excuse
abbrev pub GrewUnless : Type 0 → Option ℕ → Option ℕ → Type 0
GrewUnless excuse None now = excuse × (now ≡ None)
GrewUnless excuse (Some before) now = IsSomeAnd now (λ n. (before ≤ n) × (min (before + 1) (2 ^ 64 - 1) ≤ n))

-- the count rose, and didn't fall
abbrev pub Grew : Option ℕ → Option ℕ → Type 0
Grew before now = GrewUnless ⊥ before now

-- `Failed` comes only where the count rose, or by this excuse; every other answer leaves it, and it never falls
abbrev pub CountedUnless : {T : Type 0} → Type 0 → Option ℕ → Option ℕ → Result T DeviceBad → Type 0
CountedUnless excuse before now (Ok x) = now ≡ before
CountedUnless excuse before now (Err Failed) = GrewUnless excuse before now
CountedUnless excuse before now (Err NoMemory) = now ≡ before

-- `Failed` comes only where the count rose, never from a sound device
abbrev pub Counted : {T : Type 0} → Option ℕ → Option ℕ → Result T DeviceBad → Type 0
Counted before now result = CountedUnless ⊥ before now result
