-- Tests that decide what is said of events by number.
use Rattle.std.proofs.Common.{◌≡◌, ℕ, Bool, not, ◌&&◌, T, eqb, arith}
use Rattle.order.specs.History.{History, at, star_of, revision_of, Number, Write, FromStart, TakesFrom, TwoWrites}
use Rattle.order.specs.Opening.{is_read, is_write, writes_same}
use Rattle.order.specs.Calls.{is_number}

pub number_e : (h : History) (i : ℕ) → T (is_number h i) → Number h i
number_e h i t = grind arith

pub number_i : (h : History) (i : ℕ) → Number h i → T (is_number h i)
number_i h i n = grind arith

-- The read r takes from the write w.
abbrev pub takes? : History → ℕ → ℕ → Bool
takes? h r w = is_read (at h r) && (not (eqb (revision_of h r) 0) && writes_same (at h r) (at h w))

pub takes_i : (h : History) (r w : ℕ) → TakesFrom h r w → T (takes? h r w)
takes_i h r w t = grind arith

pub takes_e : (h : History) (r w : ℕ) → Number h r → Number h w → T (takes? h r w) → TakesFrom h r w
takes_e h r w m n t = grind arith

-- r is a read of revision 0 and w a write of its star.
abbrev pub start? : History → ℕ → ℕ → Bool
start? h r w = is_read (at h r) && (eqb (revision_of h r) 0 && (is_write (at h w) && eqb (star_of h w) (star_of h r)))

pub start_i : (h : History) (r w : ℕ) → FromStart h r → Write h w → star_of h w ≡ star_of h r → T (start? h r w)
start_i h r w f v e = grind arith

pub start_e : (h : History) (r w : ℕ) → Number h r → Number h w → T (start? h r w) → FromStart h r × Write h w × (star_of h w ≡ star_of h r)
start_e h r w m n t = grind arith

-- a and b are two different writes of one star.
abbrev pub two? : History → ℕ → ℕ → Bool
two? h a b = is_write (at h a) && (is_write (at h b) && (eqb (star_of h a) (star_of h b) && not (eqb a b)))

pub two_i : (h : History) (a b : ℕ) → TwoWrites h a b → T (two? h a b)
two_i h a b v = grind arith

pub two_e : (h : History) (a b : ℕ) → Number h a → Number h b → T (two? h a b) → TwoWrites h a b
two_e h a b m n t = grind arith
