use Rattle.nft_rulesets.proofs.spans.+put_blocks.Given as goal

abbrev pub decreases-put_blocks : goal.decreases-put_blocks
decreases-put_blocks l = l.past
