-- Numbers of two and of four bytes, big endian.
use Rattle.std.specs.Prelude.{ℕ, ◌+◌, ◌*◌, ◌/◌, ◌%◌, ◌<◌, ◌≡◌, [], ◌∷◌}
use Rattle.std.proofs.Common.{sym, mod-eq_of_lt, arith}
use Rattle.std.proofs.Math.Nat.{div-div-eq-div-mul}
use Rattle.words.specs.Bytes.{bytes16, bytes32}

-- a number from its bytes
abbrev pub two : ℕ → ℕ → ℕ
two a b = 256 * a + b

abbrev pub four : ℕ → ℕ → ℕ → ℕ → ℕ
four a b c d = 16777216 * a + 65536 * b + 256 * c + d

pub two_of_bytes : (n : ℕ) → n < 65536 → two (n / 256 % 256) (n % 256) ≡ n
two_of_bytes n h = omega arith

pub four_of_bytes : (n : ℕ) → n < 4294967296 → four (n / 16777216 % 256) (n / 65536 % 256) (n / 256 % 256) (n % 256) ≡ n
four_of_bytes n h =
    rw (sym (div-div-eq-div-mul n 65536 256), sym (div-div-eq-div-mul n 256 256))
    (steps (n / 256) (n / 256 / 256) (n / 256 / 256 / 256) (n % 256) (n / 256 % 256) (n / 256 / 256 % 256)
    (whole n) (whole (n / 256)) (whole (n / 256 / 256)))
  where
    whole : (m : ℕ) → m ≡ 256 * (m / 256) + m % 256
    whole m = omega arith

    steps : (q1 q2 q3 r0 r1 r2 : ℕ) → n ≡ 256 * q1 + r0 → q1 ≡ 256 * q2 + r1 → q2 ≡ 256 * q3 + r2 → four (q3 % 256) r2 r1 r0 ≡ n
    steps q1 q2 q3 r0 r1 r2 d e f =
        let small : q3 < 256 = omega arith in
        rw (mod-eq_of_lt small) (omega arith)

pub bytes_of_two : (a b : ℕ) → a < 256 → b < 256 → bytes16 (two a b) ≡ a ∷ (b ∷ [])
bytes_of_two a b p q =
    let first : (256 * a + b) / 256 % 256 ≡ a = omega arith in
    let second : (256 * a + b) % 256 ≡ b = omega arith in
    rw (first, second)

pub bytes_of_four : (a b c d : ℕ) → a < 256 → b < 256 → c < 256 → d < 256 → bytes32 (four a b c d) ≡ a ∷ (b ∷ (c ∷ (d ∷ [])))
bytes_of_four a b c d p q r t =
    let e1 : (16777216 * a + 65536 * b + 256 * c + d) / 16777216 % 256 ≡ a = omega arith in
    let e2 : (16777216 * a + 65536 * b + 256 * c + d) / 65536 % 256 ≡ b = omega arith in
    let e3 : (16777216 * a + 65536 * b + 256 * c + d) / 256 % 256 ≡ c = omega arith in
    let e4 : (16777216 * a + 65536 * b + 256 * c + d) % 256 ≡ d = omega arith in
    rw (e1, e2, e3, e4)
