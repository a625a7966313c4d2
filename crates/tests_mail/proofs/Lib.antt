mod FitLaws
