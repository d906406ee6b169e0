mod OneStripe
