-- Numbers, ranks, blocks and words of IPv6 are read back from the values that they are written as.
use Rattle.std.proofs.Common.{◌≡◌, ℕ, ◌/◌, ◌%◌, ◌^◌, ◌<◌, Some, refl, sym, ap, arith, eq-eqb}
use Rattle.rule_model.specs.declared.IpVersion.TheVariants.{V6}
use Rattle.rule_model.specs.AddressBlock.{AddressBlock, IsAddressBlock}
use Rattle.rule_model.specs.Rank.{high_of, low_of}
use Rattle.rule_model.specs.declared.words.Word.{Word}
use Rattle.trace_file.specs.Ipv6Values.{block_at, of_parts, rank_at, wide_number_at, word_at}
use Rattle.trace_file.specs.Forms.{parts_form, rank_form, block_form, word_form, IsIpv6Rank, IsIpv6Word}
use Rattle.trace_file.proofs.Numbers.{rank_of-parts, number_back, bits_back}

-- a number of its four words
parts-is : (n : ℕ) → of_parts (n / 2 ^ 96) (n / 2 ^ 64 % 2 ^ 32) (n / 2 ^ 32 % 2 ^ 32) (n % 2 ^ 32) ≡ n
parts-is n = omega arith

-- a number of 128 bits
pub wide_back : (n : ℕ) → n < 2 ^ 128 → wide_number_at (parts_form n) 0 ≡ Some n
wide_back n small =
    rw (bits_back 32 (n / 2 ^ 96) (omega arith)) (rw (bits_back 32 (n / 2 ^ 64 % 2 ^ 32) (omega arith)) (rw (bits_back 32 (n / 2 ^ 32 % 2 ^ 32) (omega arith))
    (rw (bits_back 32 (n % 2 ^ 32) (omega arith)) (ap Some (parts-is n)))))

-- a rank
pub rank6_back : (rank : ℕ) → IsIpv6Rank rank → rank_at (rank_form V6 rank) 0 ≡ Some rank
rank6_back rank is = rw (bits_back 8 (high_of rank) is.high) (rw (wide_back (low_of rank) (omega arith)) (ap Some (rank_of-parts rank)))

-- a block
pub block6_back : (block : AddressBlock) → IsAddressBlock block → block_at (block_form V6 block) 0 ≡ Some block
block6_back block right = rw (wide_back block.addr right.fits) (rw (number_back 128 block.len right.length) (rw (eq-eqb _ _ right.no_host_bits) refl))

-- a word
pub word6_back : (word : Word) → IsIpv6Word word → word_at (word_form V6 word) 0 ≡ Some word
word6_back word is =
    rw (bits_back 32 _ (is.fits 0)) (rw (bits_back 32 _ (is.fits 1)) (rw (bits_back 32 _ (is.fits 2)) (rw (bits_back 32 _ (is.fits 3))
    (rw (bits_back 32 _ (is.fits 4)) (rw (bits_back 32 _ (is.fits 5)) (rw (bits_back 32 _ (is.fits 6)) (rw (bits_back 32 _ (is.fits 7))
    (rw (bits_back 32 _ (is.fits 8)) (rw (bits_back 32 _ (is.fits 9)) (rw (bits_back 32 _ (is.fits 10))
    (ap Some (sym is.lanes))))))))))))
