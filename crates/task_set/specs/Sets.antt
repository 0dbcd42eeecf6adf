-- Sets of task numbers as 64-bit words: "a set of 64 bits, bit t for task t" (document 01, "The plan"). Assumes nothing.
use Rattle.std.specs.Prelude.{Bool, cond, ◌&&◌, ℕ, zero, suc, ◌/◌, ◌%◌, ◌^◌, eqb, ltb}
use Rattle.std.specs.Int.Bits.{bit_and, bit_or, bit_xor}
use Rattle.task_set.specs.Bounded.{all, any, count, first, implies}

-- how many numbers can be members
abbrev pub width : ℕ
width = 64

-- t is a member of s
unfoldable pub has : ℕ → ℕ → Bool
has s t = eqb (s / 2 ^ t % 2) 1

-- s and the member t; a number too large to be a member adds nothing
unfoldable pub insert : ℕ → ℕ → ℕ
insert s t = cond (ltb t width) (bit_or s (2 ^ t)) s

-- the members of a that are not members of b
unfoldable pub without : ℕ → ℕ → ℕ
without a b = bit_xor a (bit_and a b)

-- s without the member t; a number too large to be a member removes nothing
unfoldable pub remove : ℕ → ℕ → ℕ
remove s t = cond (ltb t width) (without s (2 ^ t)) s

-- the set of the numbers below n that pass p
unfoldable pub set_of : ℕ → (ℕ → Bool) → ℕ
set_of zero p = 0
set_of (suc n) p = cond (p n) (insert (set_of n p) n) (set_of n p)

-- the members of s below n
unfoldable pub below : ℕ → ℕ → ℕ
below s n = s % 2 ^ n

-- every member of a is a member of b
unfoldable pub subset : ℕ → ℕ → Bool
subset a b = all width (λ t. implies (has a t) (has b t))

-- a and b have a member in common
unfoldable pub intersect : ℕ → ℕ → Bool
intersect a b = any width (λ t. has a t && has b t)

-- the lowest member, and the width where there is none
unfoldable pub lowest : ℕ → ℕ
lowest s = first width (has s)

-- how many members there are
unfoldable pub size : ℕ → ℕ
size s = count width (has s)
