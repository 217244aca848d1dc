-- `conversions::round_bits` meets its contract: what is kept and how much was dropped make the pattern, a carry and a subnormal included. Assumes nothing.
use lib.Ieee.Nearest.{closest}
use lib.Ieee.{binary32}
use lib.Ieee as Ieee
use Rattle.std.proofs.Common.{◌≡◌, ℕ, ◌+◌, ◌-◌, ◌*◌, ◌^◌, ◌<◌, ◌≤◌, cond, sym, ap, ◌∙◌, subst, arith}
use Rattle.conversions.proofs.Single as Single
use Rattle.conversions.proofs.round_bits.Goals as goal

pub overflow_cast-result : goal.overflow_cast-result
overflow_cast-result c = record { fits = omega (arith, c.sign_weight-sign.ensures, Single.sign_le c.args.negative) }

pub returns-then-m-eq0 : goal.returns-then-m-eq0
returns-then-m-eq0 c = let a = c.args in
    c.sign_weight-sign.ensures ∙ sym (ap (λ (x : ℕ). Ieee.to_bits binary32 (Ieee.round binary32 a.negative (x * 2 ^ a.j) (2 ^ 1074))) c.if-m-eq0.true ∙ Single.bits-zero a.negative a.j)

pub overflow_add-k : goal.overflow_add-k
overflow_add-k c = let p : 0 < c.args.m = omega arith in
    record { fits = omega (arith, c.dropped-k.ensures, Single.drop_le c.args.m c.args.j p c.ranges.m.fits) }

pub nearest_scaled-q-requires : goal.nearest_scaled-q-requires
nearest_scaled-q-requires c = let p : 0 < c.args.m = omega arith in
    subst (λ (k : ℕ). (c.args.j - (925 + k) < 64) × (c.args.m * 2 ^ (c.args.j - (925 + k)) < 2 ^ 64)) (sym c.dropped-k.ensures) (Single.scaled-ok c.args.m c.args.j p c.ranges.m.fits)

pub overflow_mul-b : goal.overflow_mul-b
overflow_mul-b c = let p : 0 < c.args.m = omega arith in
    record { fits = omega (arith, c.dropped-k.ensures, Single.drop_le c.args.m c.args.j p c.ranges.m.fits) }

pub overflow_add-b : goal.overflow_add-b
overflow_add-b c = let p : 0 < c.args.m = omega arith in
    let q : c.nearest_scaled-q.result ≡ Single.kept_of c.args.m c.args.j = c.nearest_scaled-q.ensures ∙ ap (λ (k : ℕ). closest (c.args.m * 2 ^ c.args.j) (2 ^ (925 + k))) c.dropped-k.ensures in
    record { fits = omega (arith, q, Single.kept-le c.args.m c.args.j, c.dropped-k.ensures, Single.drop_le c.args.m c.args.j p c.ranges.m.fits) }

pub overflow_add-result : goal.overflow_add-result
overflow_add-result c = record { fits = omega (arith, c.if-b-lt2139095040.true, c.sign_weight-sign.ensures, Single.sign_le c.args.negative) }

pub overflow_cast-result-then-b-lt2139095040 : goal.overflow_cast-result-then-b-lt2139095040
overflow_cast-result-then-b-lt2139095040 c = record { fits = omega (arith, c.if-b-lt2139095040.true, c.sign_weight-sign.ensures, Single.sign_le c.args.negative) }

pub overflow_add-result-else-b-lt2139095040 : goal.overflow_add-result-else-b-lt2139095040
overflow_add-result-else-b-lt2139095040 c = record { fits = omega (arith, c.sign_weight-sign.ensures, Single.sign_le c.args.negative) }

pub overflow_cast-result-else-b-lt2139095040 : goal.overflow_cast-result-else-b-lt2139095040
overflow_cast-result-else-b-lt2139095040 c = record { fits = omega (arith, c.sign_weight-sign.ensures, Single.sign_le c.args.negative) }

pub returns-then-b-lt2139095040 : goal.returns-then-b-lt2139095040
returns-then-b-lt2139095040 c = let m = c.args.m in
    let j = c.args.j in
    let d = c.dropped-k.ensures in
    let q : c.nearest_scaled-q.result ≡ Single.kept_of m j = c.nearest_scaled-q.ensures ∙ ap (λ (k : ℕ). closest (m * 2 ^ j) (2 ^ (925 + k))) d in
    let b : c.dropped-k.result * 2 ^ 23 + c.nearest_scaled-q.result ≡ Single.drop_of m j * 2 ^ 23 + Single.kept_of m j = ap (λ (x : ℕ). x * 2 ^ 23 + c.nearest_scaled-q.result) d ∙ ap (λ (x : ℕ). Single.drop_of m j * 2 ^ 23 + x) q in
    ap (λ (x : ℕ). x + (c.dropped-k.result * 2 ^ 23 + c.nearest_scaled-q.result)) c.sign_weight-sign.ensures
    ∙ ap (λ (x : ℕ). cond c.args.negative (2 ^ 31) 0 + x) b
    ∙ sym (Single.bits-finite c.args.negative m j (subst (λ (x : ℕ). x < 255 * 2 ^ 23) b c.if-b-lt2139095040.true))

pub returns-else-b-lt2139095040 : goal.returns-else-b-lt2139095040
returns-else-b-lt2139095040 c = let m = c.args.m in
    let j = c.args.j in
    let d = c.dropped-k.ensures in
    let q : c.nearest_scaled-q.result ≡ Single.kept_of m j = c.nearest_scaled-q.ensures ∙ ap (λ (k : ℕ). closest (m * 2 ^ j) (2 ^ (925 + k))) d in
    let b : c.dropped-k.result * 2 ^ 23 + c.nearest_scaled-q.result ≡ Single.drop_of m j * 2 ^ 23 + Single.kept_of m j = ap (λ (x : ℕ). x * 2 ^ 23 + c.nearest_scaled-q.result) d ∙ ap (λ (x : ℕ). Single.drop_of m j * 2 ^ 23 + x) q in
    ap (λ (x : ℕ). x + 255 * 2 ^ 23) c.sign_weight-sign.ensures
    ∙ sym (Single.bits-over c.args.negative m j (subst (λ (x : ℕ). 255 * 2 ^ 23 ≤ x) b c.if-b-lt2139095040.false))
