-- What a text spells is a prefix.
use Rattle.std.proofs.Common.{◌≡◌, ◌∙◌, ℕ, ◌+◌, ◌-◌, ◌/◌, ◌%◌, ◌^◌, ◌<◌, ◌≤◌, List, true, Ok, ap, arith, sym}
use Rattle.std.specs.Prelude.{◌==◌, nat_le}
use Rattle.std.proofs.lemmas.Bool.{eqb-true, and_parts}
use Rattle.std.proofs.lemmas.Nat.{shr-shr}
use borrow.Author.Tests.{leb-true}
use Rattle.net_base.specs.Steps.{◌>>=◌, or_fault, unless}
use Rattle.net_base.specs.Prefixes.{PlainPrefix, IsPrefix}
use Rattle.net_base.specs.Addresses.{Quad, cut_at, quad_of, are_octets, bits_of}
use Rattle.net_base.specs.PrefixText.{prefix_spelled, length_number}
use Rattle.net_base.specs.declared.prefix_text.PrefixFault.TheVariants.{Shape, Octet, Length, HostBits}
use Rattle.net_base.proofs.StepLemmas.{bind_ok, unless_ok, ok_same}

-- four bytes make a number of 32 bits
pub bits_below : (q : Quad) → are_octets q ≡ true → bits_of q < 2 ^ 32
bits_below q octets =
    let a = and_parts (nat_le q.first 255) _ octets in
    let b = and_parts (nat_le q.second 255) _ a.1 in
    let c = and_parts (nat_le q.third 255) _ b.1 in
    omega (arith, leb-true q.first 255 a.0, leb-true q.second 255 b.0, leb-true q.third 255 c.0, leb-true q.fourth 255 c.1)

after_length : (q : Quad) (len : ℕ) (p : PlainPrefix) → are_octets q ≡ true → nat_le len 32 ≡ true
    → (unless HostBits (bits_of q % 2 ^ (32 - len) == 0) >>= (λ _. Ok (record { bits = bits_of q; len = len }))) ≡ Ok p → IsPrefix p
after_length q len p octets short h =
    let s = bind_ok (unless HostBits (bits_of q % 2 ^ (32 - len) == 0)) (λ _. Ok (record { bits = bits_of q; len = len })) p h in
    let clean = eqb-true (bits_of q % 2 ^ (32 - len)) 0 (unless_ok HostBits _ s.0 s.1) in
    rw (← ok_same (record { bits = bits_of q; len = len }) p s.2)
    (record { wide = bits_below q octets; within = leb-true len 32 short; clean = clean })

after_shape : (q : Quad) (len : ℕ) (p : PlainPrefix)
    → (unless Octet (are_octets q) >>= (λ _. unless Length (nat_le len 32) >>= (λ _. unless HostBits (bits_of q % 2 ^ (32 - len) == 0) >>= (λ _. Ok (record { bits = bits_of q; len = len }))))) ≡ Ok p
    → IsPrefix p
after_shape q len p h =
    let a =
    bind_ok (unless Octet (are_octets q))
    (λ _. unless Length (nat_le len 32) >>= (λ _. unless HostBits (bits_of q % 2 ^ (32 - len) == 0) >>= (λ _. Ok (record { bits = bits_of q; len = len })))) p h in
    let b = bind_ok (unless Length (nat_le len 32)) (λ _. unless HostBits (bits_of q % 2 ^ (32 - len) == 0) >>= (λ _. Ok (record { bits = bits_of q; len = len }))) p a.2 in
    after_length q len p (unless_ok Octet _ a.0 a.1) (unless_ok Length _ b.0 b.1) b.2

pub prefix_spelled-IsPrefix : (bs : List ℕ) (p : PlainPrefix) → prefix_spelled bs ≡ Ok p → IsPrefix p
unfolding prefix_spelled
prefix_spelled-IsPrefix bs p h =
    let halves = bind_ok (or_fault Shape (cut_at 47 bs)) _ p h in
    let q = bind_ok (or_fault Shape (quad_of halves.0.0)) _ p halves.2 in
    let len = bind_ok (or_fault Shape (length_number halves.0.1)) _ p q.2 in
    after_shape q.0 len.0 p len.2

-- fewer first bits of a number are the first of more
pub fewer_bits : (n a b : ℕ) → a ≤ b → b ≤ 32 → n / 2 ^ (32 - a) ≡ n / 2 ^ (32 - b) / 2 ^ (b - a)
fewer_bits n a b less most =
    let all : (32 - b) + (b - a) ≡ 32 - a = omega arith in
    sym (shr-shr n (32 - b) (b - a) ∙ ap (λ k. n / 2 ^ k) all)
