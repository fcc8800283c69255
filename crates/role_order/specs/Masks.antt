-- Sets of roles as two masks: bit k of the low one is role k, and bit k of the high one is role MASK_BITS + k.
use Rattle.std.specs.Prelude.{ℕ, zero, suc, ◌≡◌, ◌+◌, ◌-◌, ◌^◌, ◌<◌, ◌≤◌, ◌==◌, Bool, true, false, nat_lt}
use Rattle.std.specs.Prelude.{if◌then◌else◌, List, filter}
use Rattle.std.specs.Int.{bit_at}
use Rattle.role_order.specs.declared.TheConstants.{MOST_ROLES, MASK_BITS}
use Rattle.role_order.specs.Roles.{has_role}
use Rattle.role_order.specs.Reach.{count_up}

-- whether the bit at the place is set
unfoldable pub has_bit : ℕ → ℕ → Bool
has_bit mask place = bit_at mask place == 1

-- whether the bit of the role is set
abbrev pub is_held : ℕ → ℕ → ℕ → Bool
is_held low high role = if nat_lt role MASK_BITS then has_bit low role else has_bit high (role - MASK_BITS)

-- the roles below the count whose bits are set
unfoldable pub held_roles : ℕ → ℕ → ℕ → List ℕ
held_roles count low high = filter (is_held low high) (count_up 0 count)

-- the masks have no bit of a number that is no role
pub record AreMasks (low high : ℕ) : Type 0 where
  pub low_fits : low < 2 ^ MASK_BITS
  pub high_fits : high < 2 ^ (MOST_ROLES - MASK_BITS)

-- the mask whose bits below the width are those that pass the test
unfoldable pub mask_of : (ℕ → Bool) → ℕ → ℕ
mask_of test zero = 0
mask_of test (suc n) = (if test n then 2 ^ n else 0) + mask_of test n

-- the masks of a list
abbrev pub low_of : List ℕ → ℕ
low_of roles = mask_of (has_role roles) MASK_BITS

-- the roles of the high mask
abbrev pub high_of : List ℕ → ℕ
high_of roles = mask_of (λ k. has_role roles (MASK_BITS + k)) (MOST_ROLES - MASK_BITS)

-- a set bit from the place on, with none set between
pub record IsNextBit (mask from place : ℕ) : Type 0 where
  pub reached : from ≤ place
  pub within : place < MASK_BITS
  pub set : has_bit mask place ≡ true
  pub none_between : (k : ℕ) → from ≤ k → k < place → has_bit mask k ≡ false
