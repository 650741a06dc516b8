use Rattle.command_words.proofs.endpoint.+are_octets.Given as goal

-- proposed from what the function passes where it calls itself
abbrev pub decreases-are_octets : goal.decreases-are_octets
decreases-are_octets l = l.more
