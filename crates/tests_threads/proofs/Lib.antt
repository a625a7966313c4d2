mod RoundLaws
